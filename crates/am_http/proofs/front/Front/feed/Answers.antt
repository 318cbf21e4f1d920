use Rattle.std.proofs.Common.{◌≡◌, ◌∙◌, ℕ, List, ◌++◌, sym, ap, None, Some, rules}
use Rattle.std.specs.Option.{option_copied_mut}
use Rattle.am_http.specs.Connections.{bytes_of}
use Rattle.am_http.specs.Verdict.{verdict}
use Rattle.am_http.proofs.ConnectionLemmas.{found-bytes_of, bytes_of-updated, bytes_of-closed, left_open-decided}
use Rattle.am_http.proofs.front.Front.feed.Goals as goal

pub unreachable-requires : goal.unreachable-requires
unreachable-requires c =
    let held = c.get_mut.ensures.value ∙ found-bytes_of c.args.connection c.self.inside.connections.entries ∙ ap (bytes_of c.args.connection) c.self.view_is in
    let none : bytes_of c.args.connection c.args.self.now ≡ None = sym held ∙ ap option_copied_mut c.in_default.is in
    let reading = rw none at c.requires.reading in
    cc

pub returns-in-Waits-clause-verdict : goal.returns-in-Waits-clause-verdict
returns-in-Waits-clause-verdict c =
    let held = c.get_mut.ensures.value ∙ found-bytes_of c.args.connection c.self.inside.connections.entries ∙ ap (bytes_of c.args.connection) c.self.view_is in
    λ before is.
    let found = sym (ap option_copied_mut c.in-Some.is) ∙ held ∙ is in
    let same : c.in-Some.reading.now ≡ before = cc in
    sym c.in-Waits.is ∙ c.in_ok-decided.ensures.fed ∙ ap (λ (text : List ℕ). verdict (text ++ c.args.piece.now)) same

pub returns-in-Waits-clause-table : goal.returns-in-Waits-clause-table
returns-in-Waits-clause-table c =
    let held = c.get_mut.ensures.value ∙ found-bytes_of c.args.connection c.self.inside.connections.entries ∙ ap (bytes_of c.args.connection) c.self.view_is in
    λ before is n.
    let found = sym (ap option_copied_mut c.in-Some.is) ∙ held ∙ is in
    let same : c.in-Some.reading.now ≡ before = cc in
    let bytes = c.in_ok-decided.ensures.text c.in-Waits.is ∙ ap (λ (text : List ℕ). text ++ c.args.piece.now) same in
    let written = c.get_mut.follows.holds c.feed.new.self in
    rw (← c.self.view_is, ← bytes)
    (bytes_of-updated c.args.connection (Some c.feed.new.self) c.self.inside.connections.entries _ (written.3 (search rules)).0 n)

pub returns-in_default-2 : goal.returns-in_default-2
returns-in_default-2 c =
    let held = c.get_mut.ensures.value ∙ found-bytes_of c.args.connection c.self.inside.connections.entries ∙ ap (bytes_of c.args.connection) c.self.view_is in
    let written = c.get_mut.follows.holds c.feed.new.self in
    record {
      verdict = λ before is.
          let found = sym (ap option_copied_mut c.in-Some.is) ∙ held ∙ is in
          let same : c.in-Some.reading.now ≡ before = cc in
          c.in_ok-decided.ensures.fed ∙ ap (λ (text : List ℕ). verdict (text ++ c.args.piece.now)) same;
      table = λ before is n.
          rw (left_open-decided c.in_ok-decided.decided (before ++ c.args.piece.now) c.in_default-2.not-Waits, ← c.self.view_is)
          (bytes_of-closed c.args.connection c.feed.new.self c.self.inside.connections.entries _ _ (written.3 (search rules)).0 c.close.ensures n);
    }
