use Rattle.am_match.proofs.FormsRead.{says_read}
use Rattle.am_match.proofs.FormsFound.{read_says}
use Rattle.am_match.proofs.laws.matchers_of_a_text.Goals as goal

pub returns-clause-read : goal.returns-clause-read
returns-clause-read c = says_read

pub returns-clause-says : goal.returns-clause-says
returns-clause-says c = read_says
