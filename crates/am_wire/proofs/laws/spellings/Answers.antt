use Rattle.std.proofs.Common.{sym, ◌∙◌}
use Rattle.am_wire.proofs.MessagesAgain.{spelling_cut, spelling_more, spelling_read, spellings_apart}
use Rattle.am_wire.proofs.MessagesFound.{spells_where_read}
use Rattle.am_wire.proofs.laws.spellings.Goals as goal

pub returns : goal.returns
returns c = record {
  one = λ m a b first second. first.bytes_are ∙ sym second.bytes_are;
  apart = λ m k a b x y first second e. spellings_apart m k a b x y first second e;
  read = λ m bytes spells. spelling_read m bytes spells;
  found = λ m bytes are e. spells_where_read m bytes are e;
  cut = λ m bytes k spells lt. spelling_cut m bytes k spells lt;
  more = λ m bytes behind byte spells. spelling_more m bytes behind byte spells;
}
