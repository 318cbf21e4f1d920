use Rattle.std.proofs.Common.{rules, ◌≡◌, ◌∙◌, sym, None, Some, codes}
use Rattle.clap.specs.Words.{first_of, found_of, rows_of}
use Rattle.clap.proofs.WalkLemmas.{first_value-rows}
use Rattle.am_options.proofs.command_line.log_in.Goals as goal

pub returns-in_err-get_str : goal.returns-in_err-get_str
returns-in_err-get_str c =
    let said : first_of (codes "log") (rows_of (found_of c.args.serve.now)) ≡ None =
    sym (first_value-rows (found_of c.args.serve.now) (codes "log")) ∙ search rules in
    rw said (search rules)

pub returns : goal.returns
returns c =
    let said : first_of (codes "log") (rows_of (found_of c.args.serve.now)) ≡ Some c.in_ok-get_str.field-0.now =
    sym (first_value-rows (found_of c.args.serve.now) (codes "log")) ∙ search rules in
    rw said (search rules)
