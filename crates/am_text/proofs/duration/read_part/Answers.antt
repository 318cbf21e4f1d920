use Rattle.am_text.proofs.TakenLemmas.{all_taken}
use Rattle.am_text.proofs.duration.read_part.Goals as goal

pub read_number-requires : goal.read_number-requires
read_number-requires c = rw (c.split_at.ensures.front, c.count_digits.ensures.count) (all_taken c.args.text.now)
