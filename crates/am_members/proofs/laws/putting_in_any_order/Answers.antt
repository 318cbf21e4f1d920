use Rattle.am_members.proofs.Putting.{put_in_any_order}
use Rattle.am_members.proofs.laws.putting_in_any_order.Goals as goal

pub returns : goal.returns
returns c = put_in_any_order
