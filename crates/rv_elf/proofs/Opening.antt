-- How the memory of a new bus becomes that of an image, segment by segment.
use Rattle.std.proofs.Common.{◌≡◌, ◌∙◌, ◌<◌, ◌≤◌, ◌+◌, ℕ, Bool, true, false, not, ◌||◌, List, [], sym, ap, subst}
use Rattle.std.proofs.Common.{length, get_or, take, IsTrue}
use Rattle.std.specs.List.{list_all}
use Rattle.std.proofs.lemmas.Bool.{or_parts, and_parts, not-false, both_ways, true_from_ne_false}
use Rattle.std.proofs.lemmas.List.Folds.{list_all_at}
use Rattle.rv_memory.specs.declared.map.Region.{Region}
use Rattle.rv_memory.specs.Regions.{is_in_one_region}
use Rattle.rv_memory.specs.Bus.{BusContents, new_bus, with_bytes, with_bytes_written}
use Rattle.rv_elf.specs.declared.image.Image.{Image}
use Rattle.rv_elf.specs.declared.image.Segment.{Segment}
use Rattle.rv_elf.specs.declared.loading.LoadAt.{LoadAt}
use Rattle.rv_elf.specs.Rows.{accepted}
use Rattle.rv_elf.specs.Image.{IsImageOf}
use Rattle.rv_elf.specs.Loading.{load_address, segment_fits, any_segments_overlap, map_rows, map_check, file_bytes, initial_memory}
use Rattle.rv_elf.proofs.FirstRow.{none_refused}
use Rattle.rv_elf.proofs.Reading.{in_file, in_file_bounds, segments_in_file}
use Rattle.rv_elf.proofs.Placing.{opening_memory_more}

-- what a search for a segment past the last one gives
abbrev pub no_segment : Segment
no_segment = record { offset = 0; vaddr = 0; paddr = 0; filesz = 0; memsz = 0; flags = 0 }

-- where a map is accepted, each segment fits it and no two share a byte
map_accepted : (ss : List Segment) (rs : List Region) (at : LoadAt) → map_check ss rs at ≡ accepted
    → (list_all (segment_fits rs at) ss ≡ true) × (any_segments_overlap at ss ≡ false)
unfolding map_check
map_accepted ss rs at e =
    let p = or_parts (not (list_all (segment_fits rs at) ss)) (any_segments_overlap at ss || false)
    (none_refused (map_rows ss rs at) accepted tt e).0 in
    (not-false _ p.0, (or_parts (any_segments_overlap at ss) false p.1).0)

all_at : (p : Segment → Bool) (ss : List Segment) (i : ℕ) (d : Segment) → list_all p ss ≡ true → i < length ss
    → p (get_or ss i d) ≡ true
all_at p ss i d h l = true_from_ne_false _ (λ e. both_ways _ (list_all_at p ss i d l e) h)

-- a new bus holds the opening memory of no segment
pub opening_memory_none : (c : BusContents) (file : List ℕ) (at : LoadAt) → c ≡ new_bus c.regions c.script c.misaligned
    → c ≡ record c { memory = initial_memory c.regions [] file at }
unfolding new_bus initial_memory
opening_memory_none c file at e = let m = ap (λ d. d.memory) e in λ i. record c { memory = m i }

module _ (file : List ℕ) (image : Image) (ss : List Segment) (same : ss ≡ image.segments) (is : IsImageOf file image)
    (k : ℕ) (l : k < length ss) where
  within_file : in_file (length file) (get_or ss k no_segment) ≡ true
  within_file = all_at (in_file (length file)) ss k no_segment
      (ap (list_all (in_file (length file))) same ∙ segments_in_file is.isa file image is.is) l

  -- a segment's bytes are in the file
  pub bytes_there : 0 < (get_or ss k no_segment).filesz
      → (get_or ss k no_segment).offset + (get_or ss k no_segment).filesz ≤ length file
  bytes_there = in_file_bounds (length file) (get_or ss k no_segment) within_file

  module _ (c : BusContents) (at : LoadAt) (accepts : map_check image.segments c.regions at ≡ accepted) (b : BusContents)
      (before : b ≡ record c { memory = initial_memory c.regions (take k image.segments) file at }) where
    fits_first : IsTrue (is_in_one_region c.regions (load_address at (get_or ss k no_segment)) (get_or ss k no_segment).filesz)
    fits_first =
        (and_parts _ _
        (all_at (segment_fits c.regions at) ss k no_segment
        (ap (list_all (segment_fits c.regions at)) same ∙ (map_accepted image.segments c.regions at accepts).0) l)).0

    -- which lie in one region of the bus
    pub fits_bus : IsTrue (is_in_one_region b.regions (load_address at (get_or ss k no_segment)) (get_or ss k no_segment).filesz)
    fits_bus =
        subst (λ rs. IsTrue (is_in_one_region rs (load_address at (get_or ss k no_segment)) (get_or ss k no_segment).filesz))
        (sym (ap (λ x. x.regions) before)) fits_first

    -- and once they are placed it holds the opening memory of one segment more
    pub one_more : (new : BusContents) → new ≡ with_bytes b (load_address at (get_or ss k no_segment))
        (file_bytes file (get_or ss k no_segment))
        → new ≡ record c { memory = initial_memory c.regions (take (k + 1) image.segments) file at }
    one_more new e =
        let s = get_or ss k no_segment in
        let more = opening_memory_more c.regions file at ss k no_segment
        (ap (any_segments_overlap at) same ∙ (map_accepted image.segments c.regions at accepts).1) l fits_first within_file in
        let m = ap (λ x. with_bytes_written (initial_memory c.regions (take k x) file at) (load_address at s)
        (file_bytes file s)) (sym same) ∙ sym more
        ∙ ap (λ x. initial_memory c.regions (take (k + 1) x) file at) same in
        e ∙ ap (λ x. with_bytes x (load_address at s) (file_bytes file s)) before ∙ (λ i. record c { memory = m i })
