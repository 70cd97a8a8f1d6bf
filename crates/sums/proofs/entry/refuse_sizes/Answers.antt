-- `entry::refuse_sizes`: sizes that do not pass are refused, and a target of as many limbs stays as it is. Assumes nothing.
use Rattle.sums.proofs.Entries.{pair_refused, sizes_refused}
use Rattle.sums.proofs.entry.refuse_sizes.Goals as goal

pub unwrap_err-cause-requires : goal.unwrap_err-cause-requires
unwrap_err-cause-requires c = sizes_refused _ _ _ _ _ _ _ c.refuse.ensures c.requires

pub returns : goal.returns
returns c = λ target e. pair_refused _ _ _ _ _ _ target _ (rw e c.refuse.ensures) c.unwrap_err-cause.ensures c.refused.ensures
