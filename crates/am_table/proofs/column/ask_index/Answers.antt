use Rattle.std.proofs.Common.{◌∙◌, ◌<◌, All, Bool, List, ap, drop, false, length, replicate, subst, sym}
use Rattle.am_column.specs.Flags.{kept}
use Rattle.am_table.specs.Columns.{places_with, values_in}
use Rattle.am_table.proofs.ColumnLemmas.{narrowed_by_clearing, narrowed_by_keeping, with_within}
use Rattle.am_table.proofs.column.ask_index.Goals as goal

pub clear-requires : goal.clear-requires
clear-requires c =
    subst (All (λ place. place < length c.args.taken.now.items)) (sym c.places_with-places.ensures)
    (with_within c.args.index.now.places c.args.column.now.places.now (drop 1 (values_in c.args.column.now)) c.value.result.now (length c.args.taken.now.items)
    c.requires.index.places c.requires.within)

pub keep-requires : goal.keep-requires
keep-requires c =
    subst (λ n. All (λ place. place < n) c.places_with-places.result.now) (sym (ap length c.deref.ensures.value))
    (subst (All (λ place. place < length c.args.taken.now.items)) (sym c.places_with-places.ensures)
    (with_within c.args.index.now.places c.args.column.now.places.now (drop 1 (values_in c.args.column.now)) c.value.result.now (length c.args.taken.now.items)
    c.requires.index.places c.requires.within))

pub returns-then-takes_missing : goal.returns-then-takes_missing
returns-then-takes_missing c = record {
  taken = narrowed_by_clearing c.args.matcher.now c.args.column.now c.args.index.now c.args.taken.now.items c.clear.new.flags.items c.places_with-places.result.now
      c.requires.value c.requires.index
      (c.places_with-places.ensures ∙ ap (places_with c.args.index.now.places c.args.column.now.places.now) c.value.ensures.value)
      (sym c.takes_missing.ensures ∙ c.if-takes_missing.true)
      c.clear.ensures;
}

pub returns-in_ok-left : goal.returns-in_ok-left
returns-in_ok-left c =
    let old = c.args.taken.now.items in
    let places = c.places_with-places.result.now in
    record {
      taken = narrowed_by_keeping c.args.matcher.now c.args.column.now c.args.index.now old c.in_ok-left.left.items places
          c.requires.value c.requires.index
          (c.places_with-places.ensures ∙ ap (places_with c.args.index.now.places c.args.column.now.places.now) c.value.ensures.value)
          (sym c.takes_missing.ensures ∙ c.if-takes_missing.false)
          (subst (All (λ place. place < length old)) (sym c.places_with-places.ensures)
          (with_within c.args.index.now.places c.args.column.now.places.now (drop 1 (values_in c.args.column.now)) c.value.result.now (length old)
          c.requires.index.places c.requires.within))
          (c.in_ok-left.ensures ∙ ap (λ (flags : List Bool). kept places flags (replicate (length flags) false)) c.deref.ensures.value);
    }
