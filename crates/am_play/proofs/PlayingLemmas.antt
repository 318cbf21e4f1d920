-- What is reported event by event, and what pieces on a connection come to.
use Rattle.std.proofs.Common.{◌≡◌, ◌∙◌, ℕ, suc, ◌+◌, ◌<◌, ◌≤◌, min, Bool, true, false}
use Rattle.std.proofs.Common.{List, [], ◌∷◌, ◌++◌, length, get_or, drop, drop-cons, add-one, string_bytes}
use Rattle.std.proofs.Common.{Option, None, Some, IsSome, MatchOption, Result, Ok, Err, IsOk, is_ok, inl, inr}
use Rattle.std.proofs.Common.{refl, sym, ap, arith, append-nil, append_assoc}
use Rattle.std.proofs.lemmas.Bool.Decides.{nat_tests}
use Rattle.std.proofs.lemmas.List.Concat.{flat_map-append}
use Rattle.std.specs.List.{flat_map}
use Rattle.am_event.specs.declared.event.Event.{Event}
use Rattle.am_event.specs.declared.event.Event.TheVariants as event
use Rattle.am_event.specs.declared.refused.Refused.{Refused}
use Rattle.am_world.specs.declared.state.State.{State}
use Rattle.am_world.specs.Consistent.{Contents}
use Rattle.am_world.specs.Places.{up_at}
use Rattle.am_world.specs.Refusal.{refusal}
use Rattle.am_world.specs.Runs.{Forgets, ForgetsOver}
use Rattle.am_world.specs.Simulation.{put_out}
use Rattle.am_world.specs.Stopping.{Either, Step}
use Rattle.am_play.specs.declared.play.Player.{Player}
use Rattle.am_report.specs.declared.report.Report.{Report}
use Rattle.am_report.specs.declared.report.Try.{Try}
use Rattle.am_stream.specs.Link.{Answers, Carries}
use Rattle.am_report.specs.Mail.{letters_in}
use Rattle.am_play.specs.Playing.{Happens, Gives, Settles, happened, goes_on, is_piece}
use Rattle.am_play.specs.Trace.{Happened, Grows, Reports, text_of, outputs, printed, output_line}
use Rattle.am_report.specs.Output.{refusal_line}
use Rattle.am_report.specs.Tries.{try_of, tries_in}

-- nothing is reported
pub grows_nothing : (report : Report) → Grows report report []
grows_nothing report = record {
  text = sym (append-nil (string_bytes report.text));
  tries = sym (append-nil report.tries.items);
}

-- the tries of one trace and then another
tries_in-append : (first rest : List Happened) →
    tries_in (outputs (first ++ rest)) ≡ tries_in (outputs first) ++ tries_in (outputs rest)
tries_in-append first rest =
    ap tries_in (flat_map-append (λ (h : Happened). h.outputs) first rest)
    ∙ flat_map-append try_of (outputs first) (outputs rest)

-- the lines of one trace and then another
pub printed_more : (old mid new : List ℕ) (first rest : List Happened) → mid ≡ old ++ printed first →
    new ≡ mid ++ printed rest → new ≡ old ++ printed (first ++ rest)
printed_more old mid new first rest e f =
    f ∙ ap (λ s. s ++ printed rest) e ∙ append_assoc old (printed first) (printed rest)
    ∙ ap (λ s. old ++ s) (sym (flat_map-append text_of first rest))

-- one thing is reported after the other
pub grows_more : (old mid new : Report) (first rest : List Happened) → Grows old mid first → Grows mid new rest →
    Grows old new (first ++ rest)
grows_more old mid new first rest one other = record {
  text = printed_more _ _ _ first rest one.text other.text;
  tries = other.tries ∙ ap (λ ts. ts ++ tries_in (outputs rest)) one.tries
      ∙ append_assoc old.tries.items (tries_in (outputs first)) (tries_in (outputs rest))
      ∙ ap (λ ts. old.tries.items ++ ts) (sym (tries_in-append first rest));
}

-- what a test decides
pub either_first : (P Q : Type 0) (b : Bool) → b ≡ true → P → Either b P Q
either_first P Q true e first = first
either_first P Q false e first = absurd (cc)

pub either_second : (P Q : Type 0) (b : Bool) → b ≡ false → Q → Either b P Q
either_second P Q true e second = absurd (cc)
either_second P Q false e second = second

-- refusals don't depend on what was put out
pub refusal_same : (w w' : State) (e : Event) → Forgets w w' → refusal w' e ≡ refusal w e
unfolding up_at
refusal_same w w' (event.Open c i) forgets = rw forgets.instances refl
refusal_same w w' (event.Bytes c moment piece) forgets = rw forgets.instances refl
refusal_same w w' (event.Close c) forgets = rw forgets.instances refl
refusal_same w w' (event.Limits tenant limits) forgets = refl
refusal_same w w' (event.Tick moment) forgets = rw forgets.beside.clock refl
refusal_same w w' (event.Outcome attempt tries moment status) forgets = rw forgets.instances refl
refusal_same w w' (event.Deliver name moment) forgets = rw forgets.messages refl
refusal_same w w' (event.Lose name) forgets = rw forgets.messages refl
refusal_same w w' (event.Join i) forgets = rw (forgets.instances, forgets.beside.common) refl
refusal_same w w' (event.Leave i) forgets = rw (forgets.instances, forgets.beside.common) refl
refusal_same w w' (event.Crash i) forgets = rw (forgets.instances, forgets.beside.common) refl
refusal_same w w' (event.Restart i) forgets = rw (forgets.instances, forgets.beside.common) refl
refusal_same w w' (event.Learn i) forgets = rw (forgets.instances, forgets.beside.common) refl
refusal_same w w' (event.Force tenant) forgets = refl

-- whether an event was refused, by what came of it
pub taken_none : {T : Type 0} (o : Option Refused) (r : Result T Refused) (x : T) → r ≡ Ok x →
    MatchOption o (IsOk r) (λ e. r ≡ Err e) → o ≡ None
taken_none None r x is told = refl
taken_none (Some e) r x is told = let clash : Ok x ≡ Err e = sym is ∙ told in absurd (cc)

pub refused_some : {T : Type 0} (o : Option Refused) (r : Result T Refused) (e : Refused) → r ≡ Err e →
    MatchOption o (IsOk r) (λ e. r ≡ Err e) → o ≡ Some e
refused_some {T} None r e is told = let told_ok : is_ok {T = T} {E = Refused} (Err e) ≡ true =
    rw is at told in absurd (cc)
refused_some (Some d) r e is told =
    let both : Err d ≡ Err e = sym told ∙ is in
    let same : d ≡ e = cc in
    ap Some same

-- a chunk is a piece
pub piece_fits : (size : ℕ) (piece rest : List ℕ) → size ≡ 4096 → length piece ≡ min size (length rest) →
    0 < length rest → is_piece piece ≡ true
piece_fits size piece rest is_size cut some =
    let low : 0 < length piece = omega arith in
    let high : length piece ≤ 4096 = omega arith in
    grind (arith, nat_tests)

module _ {W : Type 0} (contents : W → Contents) where
  -- an event came and was reported: its outputs, and then its refusal
  pub reports_event : (p : Player W) (e : Event) (p' : Player W) (before : W)
      (refused : Option Refused) (old new : Report) →
      ForgetsOver (contents p.world) (contents before) → Step (contents before) e (contents p'.world) →
      refusal (contents before).state e ≡ refused →
      (IsSome refused → p'.world ≡ before) →
      p'.connections ≡ p.connections → p'.moment ≡ p.moment → p'.hook ≡ p.hook →
      p'.mail ≡ p.mail ++ letters_in (put_out (contents p'.world).state) →
      string_bytes new.text ≡
      (string_bytes old.text ++ flat_map (output_line p.connections) (put_out (contents p'.world).state))
      ++ refusal_line refused →
      new.tries.items ≡ old.tries.items ++ tries_in (put_out (contents p'.world).state) →
      Reports old new (Happens contents p e p')
  reports_event p e p' before refused old new forgets step is same connections moment hook mail text tries =
      let seen : refusal (contents p.world).state e ≡ refused =
      sym (refusal_same (contents p.world).state (contents before).state e forgets.forgets) ∙ is in
      let lines = flat_map (output_line p.connections) (put_out (contents p'.world).state) in (
        happened contents p e p' ∷ [],
        record {
          text = rw seen (text ∙ append_assoc (string_bytes old.text) lines (refusal_line refused)
              ∙ ap (λ s. string_bytes old.text ++ s) (sym (append-nil (lines ++ refusal_line refused))));
          tries = tries
              ∙ ap (λ os. old.tries.items ++ tries_in os) (sym (append-nil (put_out (contents p'.world).state)));
        },
        record {
          before = before;
          forgets = forgets;
          step = step;
          refused = rw seen same;
          connections = connections;
          moment = moment;
          hook = hook;
          mail = mail;
          traced = refl;
        },
      )

  -- no bytes came
  pub gives_nothing : (carries : Carries) (c : ℕ) (p : Player W) → Gives contents carries c p [] p []
  gives_nothing carries c p =
      record { pieces = []; left = []; cut = refl; sizes = refl; come = (inl refl, refl, refl) }

  -- the next piece was lost
  pub gives_lost : (carries : Carries) (c : ℕ) (p : Player W) (piece after : List ℕ) → is_piece piece ≡ true →
      carries piece false → Gives contents carries c p (piece ++ after) p []
  gives_lost carries c p piece after size lost = record {
    pieces = [];
    left = piece ++ after;
    cut = refl;
    sizes = refl;
    come = (
      inr (record { piece = piece; after = after; cut = refl; size = size; lost = lost }),
      refl,
      refl,
    );
  }

  -- a piece came, and then others
  pub gives_more : (carries : Carries) (c : ℕ) (p mid p' : Player W) (piece bytes : List ℕ)
      (first rest : List Happened) → is_piece piece ≡ true → carries piece true →
      Happens contents p (event.Bytes c p.moment piece) mid first →
      goes_on contents c p (event.Bytes c p.moment piece) mid ≡ true → Gives contents carries c mid bytes p' rest →
      Gives contents carries c p (piece ++ bytes) p' (first ++ rest)
  gives_more carries c p mid p' piece bytes first rest size came happens goes given = record {
    pieces = piece ∷ given.pieces;
    left = given.left;
    cut = ap (λ s. piece ++ s) given.cut ∙ sym (append_assoc piece _ given.left);
    sizes = rw size given.sizes;
    come = (mid, first, rest, came, happens, refl, rw goes given.come);
  }

  -- a piece came and ended the line
  pub gives_last : (carries : Carries) (c : ℕ) (p mid : Player W) (piece left : List ℕ) (first : List Happened) →
      is_piece piece ≡ true → carries piece true → Happens contents p (event.Bytes c p.moment piece) mid first →
      goes_on contents c p (event.Bytes c p.moment piece) mid ≡ false →
      Gives contents carries c p (piece ++ left) mid first
  gives_last carries c p mid piece left first size came happens ends = record {
    pieces = piece ∷ [];
    left = left;
    cut = ap (λ s. s ++ left) (sym (append-nil piece));
    sizes = rw size refl;
    come = (mid, first, [], came, happens, sym (append-nil first), rw ends (refl, refl, refl));
  }

  -- one of the tries got its outcome, and then the others
  pub settles_more : (answers : Answers) (p mid p' : Player W) (tries : List Try) (i : ℕ) (awaited : Try)
      (status : Option ℕ) (first rest : List Happened) →
      i < length tries → awaited ≡ get_or tries i awaited → answers awaited.request p.hook status →
      Happens contents p (event.Outcome awaited.attempt awaited.tries p.moment status) mid first →
      Settles contents answers mid (drop (i + 1) tries) p' rest →
      Settles contents answers p (drop i tries) p' (first ++ rest)
  settles_more answers p mid p' tries i awaited status first rest below is answered happens later =
      let cut : drop i tries ≡ awaited ∷ drop (i + 1) tries =
      rw add-one (drop-cons tries i awaited below ∙ ap (λ t. t ∷ drop (suc i) tries) (sym is)) in
      rw cut (status, mid, first, rest, answered, happens, refl, later)
