use Rattle.std.proofs.Common.{◌≡◌, take}
use Rattle.rvtest_app.specs.MissingImages.{are_images_missing}
use Rattle.rvtest_app.proofs.missing_images.are_images_missing.Given as goal

abbrev pub invariant-loop-index : goal.invariant-loop-index
invariant-loop-index l = l.all ≡ are_images_missing (take l.index l.plan.jobs) l.unread
