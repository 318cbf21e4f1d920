-- What waits, and what handing it over comes to.
use Rattle.std.proofs.Common.{◌≡◌, ◌∙◌, ℕ, ◌≤◌, Bool, true, false, not, List, [], ◌∷◌, ◌++◌, length}
use Rattle.std.proofs.Common.{filter, map, refl, sym, ap, append-nil, append_assoc}
use Rattle.std.proofs.Common.{◌⊎◌, inl, is_none, Some, IfOk, OnOk, Result, Ok, Err}
use Rattle.std.proofs.lemmas.List.{map-append}
use Rattle.std.proofs.lemmas.List.Elements.{All-cons, All-nil, filter-append}
use Rattle.std.specs.declared.alloc.AllocError.{AllocError}
use Rattle.am_event.specs.declared.event.Event.TheVariants as event
use Rattle.am_messages.specs.declared.name.MessageName.{MessageName}
use Rattle.am_wire.specs.Messages.{Spells}
use Rattle.am_wire.specs.declared.message.Message.{Message}
use Rattle.am_world.specs.Consistent.{Contents}
use Rattle.am_world.specs.Refusal.{refusal}
use Rattle.am_world.specs.Simulation.{message_named}
use Rattle.am_stream.specs.Link.{Carries}
use Rattle.am_report.specs.Mail.{kept_of}
use Rattle.am_play.specs.Playing.{Crosses, Hands, HandsOver, Happens, Pumps, is_piece}
use Rattle.am_play.specs.Trace.{Happened, Reports}
use Rattle.am_report.specs.declared.mail.Letter.{Letter}
use Rattle.am_play.specs.declared.play.Player.{Player}
use Rattle.am_report.specs.declared.report.Report.{Report}

-- ---- bytes over a link

pub crosses_nothing : (carries : Carries) → Crosses carries [] true
crosses_nothing carries = record {
  pieces = [];
  left = [];
  cut = refl;
  sizes = refl;
  carried = All-nil (λ piece. carries piece true);
  ends = refl;
}

pub crosses_lost : (carries : Carries) (piece after : List ℕ) → is_piece piece ≡ true → carries piece false →
    Crosses carries (piece ++ after) false
crosses_lost carries piece after size lost = record {
  pieces = [];
  left = piece ++ after;
  cut = refl;
  sizes = refl;
  carried = All-nil (λ piece. carries piece true);
  ends = record { piece = piece; after = after; cut = refl; size = size; lost = lost };
}

pub crosses_more : (carries : Carries) (piece bytes : List ℕ) (came : Bool) → is_piece piece ≡ true →
    carries piece true → Crosses carries bytes came → Crosses carries (piece ++ bytes) came
crosses_more carries piece bytes came size carried crosses = record {
  pieces = piece ∷ crosses.pieces;
  left = crosses.left;
  cut = ap (λ s. piece ++ s) crosses.cut ∙ sym (append_assoc piece _ crosses.left);
  sizes = rw size crosses.sizes;
  carried = All-cons (λ piece. carries piece true) piece crosses.pieces carried crosses.carried;
  ends = crosses.ends;
}

-- ---- letters handed over

module _ {W : Type 0} (contents : W → Contents) (carries : Carries) where
  pub hands_more : (handed : List (Letter × Bool)) (p mid p' : Player W) (trace first : List Happened) (letter : Letter)
      (is_done : Bool) (mail : List Letter) → Hands contents carries handed p mid trace → mid.mail ≡ letter ∷ mail →
      HandsOver contents carries letter.name (record mid { mail = mail }) is_done p' first →
      Hands contents carries (handed ++ (letter, is_done) ∷ []) p p' (trace ++ first)
  hands_more [] p mid p' trace first letter is_done mail (same, nothing) waits over =
      rw nothing (
        mail,
        p',
        first,
        [],
        ap (λ (x : Player W). x.mail) (sym same) ∙ waits,
        rw same at over,
        sym (append-nil first),
        (refl, refl),
      )
  hands_more (one ∷ more) p mid p' trace first letter is_done mail
      (left, next, head, rest, one_waits, one_over, both, later) waits over = (
        left,
        next,
        head,
        rest ++ first,
        one_waits,
        one_over,
        ap (λ xs. xs ++ first) both ∙ append_assoc head rest first,
        hands_more more next mid p' rest first letter is_done mail later waits over,
      )

  -- all were handed over, or as many as may be; those that aren't done with wait before the others
  pub pumped : (handed : List (Letter × Bool)) (p mid stop : Player W) (trace : List Happened)
      (kept letters : List Letter) → Hands contents carries handed p mid trace → length handed ≤ 1000000 →
      (mid.mail ≡ []) ⊎ (length handed ≡ 1000000) → kept ≡ kept_of handed → stop ≡ mid →
      letters ≡ kept ++ stop.mail → Pumps contents carries p (record stop { mail = letters }) trace
  pumped handed p mid stop trace kept letters hands bound over is same put = record {
    handed = handed;
    until = mid;
    hands = hands;
    bound = bound;
    over = over;
    kept = ap (λ ls. record stop { mail = ls }) (put ∙ ap (λ ls. ls ++ stop.mail) is)
        ∙ ap (λ (q : Player W). record q { mail = kept_of handed ++ q.mail }) same;
  }

  -- a message that is there went over the link, and was delivered or refused
  pub reached : (message : Message) (name : MessageName) (p p' : Player W) (old new : Report)
      (r : Result Bool AllocError) (bytes : List ℕ) → message_named name (contents p.world).state ≡ Some message →
      Spells bytes message → Crosses carries bytes true →
      IfOk r (λ taken. taken ≡ is_none (refusal (contents p.world).state (event.Deliver name p.moment))) →
      OnOk r (Reports old new (Happens contents p (event.Deliver name p.moment) p')) →
      IfOk r (λ is_done. Reports old new (HandsOver contents carries name p is_done p'))
  reached message name p p' old new (Ok taken) bytes found spells crosses is (trace, grows, happens) = (
    trace,
    grows,
    rw found (inl (record {
      bytes = bytes;
      spells = spells;
      came = true;
      crosses = crosses;
      reaches = (happens, is);
    })),
  )
  reached message name p p' old new (Err error) bytes found spells crosses is happens = tt

kept-append : (xs ys : List (Letter × Bool)) → kept_of (xs ++ ys) ≡ kept_of xs ++ kept_of ys
kept-append xs ys =
    ap (map (λ (one : Letter × Bool). one.0)) (filter-append (λ (one : Letter × Bool). not one.1) xs ys)
    ∙ map-append (λ (one : Letter × Bool). one.0) (filter (λ (one : Letter × Bool). not one.1) xs)
    (filter (λ (one : Letter × Bool). not one.1) ys)

-- one that is done with isn't kept
pub kept_done : (handed : List (Letter × Bool)) (letter : Letter) →
    kept_of (handed ++ (letter, true) ∷ []) ≡ kept_of handed
kept_done handed letter = kept-append handed ((letter, true) ∷ []) ∙ append-nil (kept_of handed)

pub kept_more : (handed : List (Letter × Bool)) (letter : Letter) →
    kept_of (handed ++ (letter, false) ∷ []) ≡ kept_of handed ++ letter ∷ []
kept_more handed letter = kept-append handed ((letter, false) ∷ [])
