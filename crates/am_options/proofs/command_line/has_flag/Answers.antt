use Rattle.std.proofs.Common.{rules, ◌≡◌, ◌∙◌, sym, None, Some}
use Rattle.clap.specs.Words.{first_of, found_of, rows_of}
use Rattle.clap.proofs.WalkLemmas.{first_value-rows}
use Rattle.am_options.proofs.command_line.has_flag.Goals as goal

pub returns-in-Some : goal.returns-in-Some
returns-in-Some c =
    let said : first_of c.args.name.now (rows_of (found_of c.args.matches.now)) ≡ Some c.in-Some.text.now =
    sym (first_value-rows (found_of c.args.matches.now) c.args.name.now) ∙ search rules in
    rw said (search rules)

pub returns-in-None : goal.returns-in-None
returns-in-None c =
    let said : first_of c.args.name.now (rows_of (found_of c.args.matches.now)) ≡ None =
    sym (first_value-rows (found_of c.args.matches.now) c.args.name.now) ∙ search rules in
    rw said (search rules)
