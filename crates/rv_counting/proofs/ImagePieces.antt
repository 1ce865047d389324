-- The pieces of a batch.
use Rattle.std.proofs.Common.{◌≡◌, ◌∙◌, ◌+◌, ◌-◌, ◌<◌, ◌≤◌, ◌≢◌, ⊎_elim, ℕ, zero, suc, List, [], ◌∷◌, ◌++◌, length, take, drop, get_or, refl, sym, ap, subst, arith}
use Rattle.std.proofs.Math.Seq.{get_or-append_seam}
use Rattle.std.proofs.lemmas.Bool.{cases_eq}
use Rattle.std.proofs.lemmas.List.{get_or-drop, get_or-take, get_or_append_left, length-append, length-drop, length-take}
use Rattle.std.proofs.lemmas.List.Elements.{All-drop, All-take}
use Rattle.rv_fleet.specs.JobIndices.{AreJobIndices}
use Rattle.rv_trace.specs.declared_job.Job.{Job}
use Rattle.rv_trace.specs.Plans.{PlanView}
use Rattle.rv_trace.specs.Trace.{job_at}
use Rattle.rv_counting.specs.declared.index_ranges.IndexRange.{IndexRange}
use Rattle.rv_counting.specs.BatchRanges.{range_at, indices_in, range_start, AreIndexRanges, AreIndexRangesTo, HaveOneImage, IsIndexRange}

-- ---- one piece

-- the jobs at the indices from one on name one image, up to another
abbrev pub HaveOneImageFrom : PlanView → List ℕ → ℕ → ℕ → Type 0
HaveOneImageFrom plan indices from to = (k : ℕ) (d : Job) → from ≤ k → k < to
    → (job_at plan (get_or indices k 0) d).image ≡ (job_at plan (get_or indices from 0) d).image

module _ (plan : PlanView) (indices : List ℕ) (from : ℕ) where
  pub first_image : HaveOneImageFrom plan indices from (from + 1)
  first_image k d least most = let here : k ≡ from = omega arith in ap (λ j. (job_at plan (get_or indices j 0) d).image) here

  pub next_image : (to : ℕ) → HaveOneImageFrom plan indices from to
      → ((d : Job) → (job_at plan (get_or indices to 0) d).image ≡ (job_at plan (get_or indices from 0) d).image)
      → HaveOneImageFrom plan indices from (to + 1)
  next_image to h next k d least most = ⊎_elim
      (λ (e : k ≡ to). ap (λ j. (job_at plan (get_or indices j 0) d).image) e ∙ next d)
      (λ (apart : k ≢ to). h k d least (omega (arith, most, apart)))
      (cases_eq k to)

  module _ (to : ℕ) (h : HaveOneImageFrom plan indices from to) where
    taken_place : (k : ℕ) → k < to - from → get_or (take (to - from) (drop from indices)) k 0 ≡ get_or indices (from + k) 0
    taken_place k lt = get_or-take (to - from) (drop from indices) k 0 lt ∙ get_or-drop from indices k 0

    same_image : HaveOneImage plan (indices_in indices (record { begin = from; end = to }))
    same_image k d lt =
        let most = length-take (to - from) (drop from indices) in
        let low : k < to - from = omega (arith, lt, most) in
        let some : 0 < to - from = omega (arith, low) in
        let here : from + 0 ≡ from = omega arith in
        ap (λ index. (job_at plan index d).image) (taken_place k low) ∙ h (from + k) d (omega arith) (omega (arith, low))
        ∙ sym (ap (λ index. (job_at plan index d).image) (taken_place 0 some ∙ ap (λ j. get_or indices j 0) here))

    pub is_piece : from < to → to ≤ length indices → IsIndexRange plan indices from (record { begin = from; end = to })
    is_piece some within = record { starts = refl; some = some; within = within; same = same_image }

-- ---- all of them

start_kept : (pieces : List IndexRange) (piece : IndexRange) (k : ℕ) → k ≤ length pieces → range_start (pieces ++ piece ∷ []) k ≡ range_start pieces k
start_kept pieces piece zero few = refl
start_kept pieces piece (suc k) few =
    ap (λ (p : IndexRange). p.end) (get_or_append_left pieces (piece ∷ []) (record { begin = 0; end = 0 }) k (omega (arith, few)))

pub no_pieces : (plan : PlanView) (indices : List ℕ) → AreIndexRangesTo plan indices 0 []
no_pieces plan indices = record { few = omega arith; each = λ k lt. absurd (omega (arith, lt)); all = refl }

module _ (plan : PlanView) (indices : List ℕ) (from : ℕ) (pieces : List IndexRange) (piece : IndexRange) (h : AreIndexRangesTo plan indices from pieces)
    (next : IsIndexRange plan indices from piece) where
  here : range_at (pieces ++ piece ∷ []) (length pieces) ≡ piece
  here = get_or-append_seam pieces piece [] (record { begin = 0; end = 0 })

  long : length (pieces ++ piece ∷ []) ≡ length pieces + 1
  long = length-append pieces (piece ∷ [])

  last : IsIndexRange plan indices (range_start (pieces ++ piece ∷ []) (length pieces)) (range_at (pieces ++ piece ∷ []) (length pieces))
  last =
      subst (λ (p : IndexRange). IsIndexRange plan indices (range_start (pieces ++ piece ∷ []) (length pieces)) p) (sym here)
      (subst (λ (n : ℕ). IsIndexRange plan indices n piece) (sym (start_kept pieces piece (length pieces) (omega arith) ∙ h.all)) next)

  earlier : (k : ℕ) → k < length pieces
      → IsIndexRange plan indices (range_start (pieces ++ piece ∷ []) k) (range_at (pieces ++ piece ∷ []) k)
  earlier k lt =
      subst (λ (p : IndexRange). IsIndexRange plan indices (range_start (pieces ++ piece ∷ []) k) p)
      (sym (get_or_append_left pieces (piece ∷ []) (record { begin = 0; end = 0 }) k lt))
      (subst (λ (n : ℕ). IsIndexRange plan indices n (range_at pieces k)) (sym (start_kept pieces piece k (omega (arith, lt)))) (h.each k lt))

  pub one_piece_more : AreIndexRangesTo plan indices piece.end (pieces ++ piece ∷ [])
  one_piece_more = record {
    few = (let n = long in
        let f = h.few in
        let s = next.some in
        let e = next.starts in
        omega (arith, n, f, s, e));
    each = λ k lt. ⊎_elim
        (λ (e : k ≡ length pieces). subst (λ n. IsIndexRange plan indices (range_start (pieces ++ piece ∷ []) n) (range_at (pieces ++ piece ∷ []) n))
        (sym e) last)
        (λ (apart : k ≢ length pieces). let n = long in earlier k (omega (arith, lt, n, apart)))
        (cases_eq k (length pieces));
    all = ap (λ n. range_start (pieces ++ piece ∷ []) n) (long ∙ one_on) ∙ ap (λ (p : IndexRange). p.end) here;
  }
    where
      one_on : length pieces + 1 ≡ suc (length pieces)
      one_on = omega arith

-- ---- one of them

module _ (plan : PlanView) (indices : List ℕ) (pieces : List IndexRange) (are : AreIndexRanges plan indices pieces) (number : ℕ)
    (lt : number < length pieces) where
  abbrev pub piece : IndexRange
  piece = range_at pieces number

  piece_long : length (indices_in indices piece) ≡ piece.end - piece.begin
  piece_long =
      let taken = length-take (piece.end - piece.begin) (drop piece.begin indices) in
      let rest = length-drop piece.begin indices in
      let within = (are.each number lt).within in
      omega (arith, taken, rest, within)

  pub piece_some : 0 < length (indices_in indices piece)
  piece_some = let long = piece_long in let some = (are.each number lt).some in omega (arith, long, some)

  pub piece_few : length (indices_in indices piece) ≤ length indices
  piece_few = let long = piece_long in let within = (are.each number lt).within in omega (arith, long, within)

  pub piece_indices : AreJobIndices plan indices → AreJobIndices plan (indices_in indices piece)
  piece_indices h =
      All-take (λ (index : ℕ). index < length plan.jobs) (piece.end - piece.begin) (drop piece.begin indices)
      (All-drop (λ (index : ℕ). index < length plan.jobs) piece.begin indices h)
