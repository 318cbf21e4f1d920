use Rattle.std.proofs.Common.{rules, ◌≡◌, ◌∙◌, ap, sym, None, Some, codes}
use Rattle.std.specs.Result.{result_ok}
use Rattle.clap.specs.Words.{first_of, found_of, rows_of}
use Rattle.clap.proofs.WalkLemmas.{first_value-rows}
use Rattle.am_options.proofs.command_line.key_in.Goals as goal

pub returns-in-Some : goal.returns-in-Some
returns-in-Some c =
    let said : first_of (codes "key") (rows_of (found_of c.args.matches.now)) ≡ Some c.in-Some.digits.now =
    sym (first_value-rows (found_of c.args.matches.now) (codes "key")) ∙ search rules in
    rw said (c.ok.ensures.value ∙ ap result_ok c.from_hex.ensures)

pub returns-in-None : goal.returns-in-None
returns-in-None c =
    let said : first_of (codes "key") (rows_of (found_of c.args.matches.now)) ≡ None =
    sym (first_value-rows (found_of c.args.matches.now) (codes "key")) ∙ search rules in
    rw said (search rules)
