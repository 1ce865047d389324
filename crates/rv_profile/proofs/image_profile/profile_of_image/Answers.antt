use Rattle.std.proofs.Common.{◌∙◌, subst, sym}
use Rattle.rv_profile.specs.ImageStacks.{sums_of}
use Rattle.rv_profile.specs.Profile.{AreWithin, profiles_of}
use Rattle.rv_profile.specs.declared.sums.Sums.{Sums}
use Rattle.rv_profile.proofs.Parts.{profile_within}
use Rattle.rv_profile.proofs.SpotSums.{fit}
use Rattle.rv_profile.proofs.image_profile.profile_of_image.Goals as goal

pub invariant_of-result : goal.invariant_of-result
invariant_of-result c =
    let nodes = c.args.stacks.nodes.now in
    let sums = fit (sums_of nodes) c.unwrap-sums.result (sym c.unwrap-sums.ensures ∙ c.sums_of.ensures) in
    record {
      within = subst (λ (s : Sums). AreWithin s.steps (profiles_of c.in_ok-functions.functions.items)) (sym sums.0)
          (profile_within nodes c.args.stacks.names.now (profiles_of c.in_ok-functions.functions.items) c.in_ok-functions.ensures.each);
    }
