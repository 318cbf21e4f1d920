use Rattle.std.proofs.Common.{rules}
use Rattle.std.proofs.lemmas.Fn.{filter_same}
use Rattle.am_tenant.specs.Names.{same}
use Rattle.am_book.proofs.Leaving.{is_others, rows_left}
use Rattle.am_book.proofs.book.forget_all.Goals as goal

pub returns : goal.returns
unfolding same
returns c =
    rows_left c.args.tenant.now c.args.rows.now.keys c.retain.new.self.keys
    (filter_same _ (is_others c.args.tenant.now) _ (λ x b f' k. search rules) _ _ c.retain.ensures.filtered)
