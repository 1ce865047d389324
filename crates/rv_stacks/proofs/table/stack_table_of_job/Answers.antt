-- A refused job has no counts; else they are those of its run.
use Rattle.std.proofs.Common.{◌≡◌, ◌∙◌, ◌∷◌, [], ℕ, Some, Option, List, Result, Ok, Err, sym, ap, subst}
use Rattle.std.proofs.lemmas.List.{get_or_read}
use Rattle.std.proofs.lemmas.Result.{IfOk-weaker}
use Rattle.std.specs.Result.{result_ok}
use Rattle.rv_count_tables.specs.declared.table.AddressCounts.{AddressCounts}
use Rattle.rv_counting.proofs.Public.{no_bytes, no_image}
use Rattle.rv_counting.specs.Image.{image_of}
use Rattle.rv_counting.specs.declared_elf_error.ImageError.{ImageError}
use Rattle.rv_counting.specs.declared_image.Image.{Image}
use Rattle.rv_counting.specs.declared_job.Job.{Job}
use Rattle.rv_counting.specs.Jobs.{single_job}
use Rattle.rv_calls.specs.Rows.{image_if_read, start_state_in}
use Rattle.rv_count_tables.specs.declared_call_node.CallNode.{CallNode}
use Rattle.rv_stacks.specs.Stacks.{function_at, AreCountsAndStacksOfJob}
use Rattle.rv_stacks.specs.StackTables.{name_of_function, IsTableOfRun, IsTableWithStacks}
use Rattle.rv_stacks.proofs.Apart.{counts_and_stacks}
use Rattle.rv_stacks.proofs.OfRun.{none_if_unstacked, ran, refused}
use Rattle.rv_counting.specs.Trace.{job_at}
use Rattle.rv_stacks.proofs.table.stack_table_of_job.Goals as goal

pub returns-in_default : goal.returns-in_default
returns-in_default c =
    let plan = c.args.plan.now in
    let d = single_job [] 0 [] in
    let job = job_at plan c.args.index d in
    let table = c.empty_table.result in
    counts_and_stacks plan (c.args.index ∷ []) table
    (refused plan.results job table c.empty_table.ensures
    (λ s start. no_bytes job s plan.results (sym (c.in_default.ensures d)) start))

pub returns-in_default-2 : goal.returns-in_default-2
returns-in_default-2 c =
    let plan = c.args.plan.now in
    let d = single_job [] 0 [] in
    let job = job_at plan c.args.index d in
    let same = get_or_read plan.jobs c.args.index c.job-job.result.now c.requires c.job-job.ensures.value d in
    let none = ap (λ (j : Job). result_ok (image_of j.isa c.in-Some.bytes.now)) (sym same)
    ∙ sym c.in_ok-image.ensures.value ∙ c.in_default-2.is in
    let table = c.empty_table-in_default-2.result in
    counts_and_stacks plan (c.args.index ∷ []) table
    (refused plan.results job table c.empty_table-in_default-2.ensures
    (λ s start. no_image job s plan.results c.in-Some.bytes.now (sym (c.in-Some.ensures d)) none start))

read_as : (r : Result Image ImageError) (image : Image) → result_ok r ≡ Some image → r ≡ Ok image
read_as (Ok i) image e = cc
read_as (Err w) image e = cc

pub new-requires : goal.new-requires
new-requires c =
    let isa = c.job-job.result.now.isa in
    record {
      image = record {
        isa = isa;
        is = read_as (image_of isa c.in-Some.bytes.now) c.in-Some-2.image (sym c.in_ok-image.ensures.value ∙ c.in-Some-2.is);
      };
    }

pub returns-in-Some-3 : goal.returns-in-Some-3
returns-in-Some-3 c =
    let plan = c.args.plan.now in
    let file = c.in-Some.bytes.now in
    let image = c.in-Some-2.image in
    let addresses = c.in-Some-3.addresses in
    let nodes = c.in-Some-3.nodes in
    let symbols = c.in_ok-symbols.symbols in
    let its_image = c.in_ok-symbols.ensures.image in
    let its_bytes = c.in_ok-symbols.ensures.bytes in
    let d = single_job [] 0 [] in
    let job = job_at plan c.args.index d in
    IfOk-weaker c.table_of_run.result
    (IsTableOfRun (name_of_function symbols.image.now symbols.bytes.now) c.as_str.result.now symbols.bytes.now addresses nodes)
    (IsTableWithStacks plan (c.args.index ∷ []))
    (λ t is.
    let same = get_or_read plan.jobs c.args.index c.job-job.result.now c.requires c.job-job.ensures.value d in
    let path = c.as_str.ensures ∙ ap (λ (j : Job). j.image) same in
    let bytes = sym (c.in-Some.ensures d) in
    let read = ap (image_if_read job.isa) bytes ∙ ap (λ (j : Job). image_if_read j.isa (Some file)) (sym same)
    ∙ sym c.in_ok-image.ensures.value ∙ c.in-Some-2.is in
    let of_image = subst (λ (i : Image). IsTableOfRun (name_of_function i symbols.bytes.now) c.as_str.result.now symbols.bytes.now addresses nodes t)
    its_image is in
    let of_file = subst (λ (b : List ℕ). IsTableOfRun (name_of_function image b) c.as_str.result.now b addresses nodes t) its_bytes of_image in
    let both = subst (λ (o : Option (List AddressCounts × List CallNode)). AreCountsAndStacksOfJob (function_at symbols.image.now symbols.bytes.now) job.budget
    (start_state_in plan.results job) o) c.in-Some-3.is (c.in_ok-addresses.ensures.counts_and_stacks d) in
    let by_image = subst (λ (i : Image). AreCountsAndStacksOfJob (function_at i symbols.bytes.now) job.budget (start_state_in plan.results job) (Some (addresses, nodes)))
    its_image both in
    counts_and_stacks plan (c.args.index ∷ []) t
    (ran plan.results job file image bytes read addresses nodes t
    (subst (λ (p : List ℕ). IsTableOfRun (name_of_function image file) p file addresses nodes t) path of_file)
    (subst (λ (b : List ℕ). AreCountsAndStacksOfJob (function_at image b) job.budget (start_state_in plan.results job) (Some (addresses, nodes))) its_bytes by_image)
    (c.in_ok-addresses.ensures.budget d)))
    c.table_of_run.ensures

pub returns : goal.returns
returns c =
    let plan = c.args.plan.now in
    let d = single_job [] 0 [] in
    let job = job_at plan c.args.index d in
    let symbols = c.in_ok-symbols.symbols in
    let function = function_at symbols.image.now symbols.bytes.now in
    let none = subst (λ (o : Option (List AddressCounts × List CallNode)). AreCountsAndStacksOfJob function job.budget (start_state_in plan.results job) o)
    c.in-None.is (c.in_ok-addresses.ensures.counts_and_stacks d) in
    let table = c.empty_table-in-None.result in
    counts_and_stacks plan (c.args.index ∷ []) table
    (refused plan.results job table c.empty_table-in-None.ensures
    (λ s start. none_if_unstacked function job.budget (start_state_in plan.results job) s none start))
