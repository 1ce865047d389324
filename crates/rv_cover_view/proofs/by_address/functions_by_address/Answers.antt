-- The functions of a file are few, and those that are each once are no more.
use Rattle.std.proofs.Common.{◌<◌, ◌≤◌, ◌^◌, IfOk, Err, Ok, ap, arith, map, subst}
use Rattle.rv_cover_view.specs.Functions.{IsEachOnce, code_bytes, view_of_function}
use Rattle.rv_cover_view.proofs.Bounds.{functions_few}
use Rattle.rv_cover_view.proofs.by_address.functions_by_address.Goals as goal

pub returns : goal.returns
returns c =
    let few = functions_few c.args.file.now c.requires.small c.args.image.now in
    let same = ap code_bytes c.in_ok-functions.ensures in record {
      each_once = subst (λ old. IfOk c.each_address_once.result (λ found. IsEachOnce old (map view_of_function found.items))) c.in_ok-functions.ensures
          c.each_address_once.ensures.each_once;
      fits = elim c.each_address_once.result
          as (λ r. IfOk r (λ found. code_bytes (map view_of_function found.items) ≤ code_bytes (map view_of_function c.in_ok-functions.field-0.items))
          → IfOk r (λ found. code_bytes (map view_of_function found.items) < 2 ^ 64)) [
            | Ok found ↦ λ fewer. omega (arith, few, same, fewer)
            | Err e ↦ λ h. tt
          ] c.each_address_once.ensures.fewer;
    }
