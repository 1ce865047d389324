-- How many instructions began, of one element more at a time.
use Rattle.std.proofs.Common.{◌≡◌, ◌+◌, ◌<◌, ◌++◌, ◌∷◌, ℕ, List, [], add-one, ap, arith, get_or, length, take}
use Rattle.std.proofs.Math.Seq.{take-suc}
use Rattle.std.specs.Prelude.{min}
use Rattle.rv_count_tables.specs.declared.table.AddressCounts.{AddressCounts}
use Rattle.rv_count_tables.specs.declared.table.ImageCounts.{ImageCounts}
use Rattle.rvtest_app.specs.CountSums.{executed_at_addresses, executed_in_images, max_u64, capped_number}

addresses-snoc : (some : List AddressCounts) (one : AddressCounts)
    → executed_at_addresses (some ++ one ∷ []) ≡ executed_at_addresses some + one.executed
addresses-snoc [] one = omega arith
addresses-snoc (c ∷ cs) one = omega (arith, addresses-snoc cs one)

images-snoc : (some : List ImageCounts) (one : ImageCounts)
    → executed_in_images (some ++ one ∷ []) ≡ executed_in_images some + executed_at_addresses one.addresses
images-snoc [] one = omega arith
images-snoc (image ∷ images) one = omega (arith, images-snoc images one)

addresses-more : (addresses : List AddressCounts) (i : ℕ) (d : AddressCounts) → i < length addresses
    → executed_at_addresses (take (i + 1) addresses) ≡ executed_at_addresses (take i addresses) + (get_or addresses i d).executed
addresses-more addresses i d within =
    rw (add-one i, take-suc addresses i d within) (addresses-snoc (take i addresses) (get_or addresses i d))

images-more : (images : List ImageCounts) (i : ℕ) (d : ImageCounts) → i < length images
    → executed_in_images (take (i + 1) images) ≡ executed_in_images (take i images) + executed_at_addresses (get_or images i d).addresses
images-more images i d within =
    rw (add-one i, take-suc images i d within) (images-snoc (take i images) (get_or images i d))

-- the shown number of the first addresses, behind a number, and that of one more
pub one_more_address : (before : ℕ) (addresses : List AddressCounts) (i : ℕ) (d : AddressCounts) (total next : ℕ)
    → i < length addresses → total ≡ capped_number (before + executed_at_addresses (take i addresses))
    → next ≡ min (total + (get_or addresses i d).executed) max_u64
    → next ≡ capped_number (before + executed_at_addresses (take (i + 1) addresses))
one_more_address before addresses i d total next within so_far added = omega (arith, addresses-more addresses i d within)

-- the shown number of the first images, and that of one more
pub one_more_image : (images : List ImageCounts) (i : ℕ) (image : ImageCounts) (total next : ℕ) → i < length images
    → image ≡ get_or images i image → total ≡ capped_number (executed_in_images (take i images))
    → next ≡ capped_number (total + executed_at_addresses image.addresses)
    → next ≡ capped_number (executed_in_images (take (i + 1) images))
one_more_image images i image total next within is so_far added =
    omega (arith, images-more images i image within, ap (λ (one : ImageCounts). executed_at_addresses one.addresses) is)
