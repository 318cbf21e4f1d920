use Rattle.std.proofs.Common.{sym, map, string_bytes}
use Rattle.am_pattern.proofs.NotedLemmas.{noted_known, noted_inserted, held_known, held_inserted}
use Rattle.am_pattern.proofs.Decided.{list_any-map}
use Rattle.am_pattern.proofs.cache.PatternCache.note.Goals as goal

pub returns-then-contains-clause-ok : goal.returns-then-contains-clause-ok
returns-then-contains-clause-ok c =
    rw (← c.self.view_is)
    (noted_known (map string_bytes c.self.inside.refused.keys) c.args.pattern.now
    (rw list_any-map (sym c.if-contains.ensures)))

pub returns-then-contains-clause-held : goal.returns-then-contains-clause-held
returns-then-contains-clause-held c =
    rw (← c.self.view_is)
    (held_known (map string_bytes c.self.inside.refused.keys) c.args.pattern.now
    (rw list_any-map (sym c.if-contains.ensures)))

pub returns-clause-ok : goal.returns-clause-ok
returns-clause-ok c =
    rw (← c.self.view_is, c.in_ok-insert.ensures.keys)
    (noted_inserted string_bytes c.self.inside.refused.keys c.in_ok-text.text c.args.pattern.now c.in_ok-text.ensures.ok
    (rw list_any-map (sym c.if-contains.ensures)))

pub returns-clause-held : goal.returns-clause-held
returns-clause-held c =
    rw (← c.self.view_is, c.in_ok-insert.ensures.keys)
    (held_inserted string_bytes c.self.inside.refused.keys c.in_ok-text.text c.args.pattern.now c.in_ok-text.ensures.ok
    (rw list_any-map (sym c.if-contains.ensures)))
