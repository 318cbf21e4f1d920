use Rattle.am_item.specs.Retirement.{is_retired}
use Rattle.am_book.proofs.Sifting.{best-dropped}
use Rattle.am_book.proofs.laws.dropping_what_is_retired.Goals as goal

pub returns : goal.returns
returns c = λ moment xs. best-dropped (is_retired moment) xs
