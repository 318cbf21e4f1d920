use Rattle.std.proofs.Common.{◌≡◌, ◌∙◌, ◌-◌, length, take, min, ap, arith}
use Rattle.std.proofs.lemmas.List.{length-append}
use Rattle.am_http.proofs.BoundLemmas.{needed_verdict, needed_text}
use Rattle.am_http.proofs.connection.Connection.feed.Goals as goal

pub returns-clause-fed : goal.returns-clause-fed
returns-clause-fed c =
    let old = c.self.inside.text.items in
    let taken = take c.min.result c.args.piece.now in
    let grown = c.in_ok-extend_from_slice.ensures in
    let sum = length-append old taken in
    let there = ap length (c.deref.ensures.value ∙ grown.items) in
    let before : c.len-before.result ≡ length old = omega (arith, c.len-before.ensures, grown.len, c.deref.ensures.len) in
    let room = c.saturating_sub-room.ensures ∙ ap (λ k. 1064960 - k) before in
    let needed = c.min.ensures ∙ ap (min (length c.args.piece.now)) room in
    rw (← c.self.view_is, ← needed_verdict old c.args.piece.now c.min.result needed, ← grown.items) c.said.ensures

pub returns-clause-text : goal.returns-clause-text
returns-clause-text c =
    let old = c.self.inside.text.items in
    let taken = take c.min.result c.args.piece.now in
    let grown = c.in_ok-extend_from_slice.ensures in
    let sum = length-append old taken in
    let there = ap length (c.deref.ensures.value ∙ grown.items) in
    let before : c.len-before.result ≡ length old = omega (arith, c.len-before.ensures, grown.len, c.deref.ensures.len) in
    let room = c.saturating_sub-room.ensures ∙ ap (λ k. 1064960 - k) before in
    let needed = c.min.ensures ∙ ap (min (length c.args.piece.now)) room in
    rw (← c.self.view_is, grown.items) (needed_text c.said.result old c.args.piece.now c.min.result needed (rw grown.items at c.said.ensures))
