-- What it comes to that instances learn rings.
use Rattle.std.proofs.Common.{◌≡◌, ◌∙◌, ℕ, ◌+◌, ◌<◌, true, false, List, [], ◌∷◌, ◌++◌, length, drop, get_or}
use Rattle.std.proofs.Common.{drop-cons, add-one, refl, sym, ap, append-nil, append_assoc}
use Rattle.am_event.specs.declared.event.Event.TheVariants as event
use Rattle.am_ring.specs.Instances.{all_instances}
use Rattle.am_world.specs.Consistent.{Contents}
use Rattle.am_play.proofs.PlayingLemmas.{either_first, either_second, grows_nothing}
use Rattle.am_play.specs.Playing.{Happens, LearnsEach, LearnsIfBehind, LearnsInRounds, in_all_rounds, is_behind}
use Rattle.am_play.specs.Trace.{Happened, Reports}
use Rattle.am_play.specs.declared.play.Player.{Player}
use Rattle.am_report.specs.declared.report.Report.{Report}

-- what happened in rounds and in one more
pub all_rounds-push : (rounds : List (List Happened)) (round : List Happened) →
    in_all_rounds (rounds ++ round ∷ []) ≡ in_all_rounds rounds ++ round
all_rounds-push [] round = append-nil round
all_rounds-push (one ∷ rounds) round =
    ap (λ t. one ++ t) (all_rounds-push rounds round) ∙ sym (append_assoc one (in_all_rounds rounds) round)

module _ {W : Type 0} (contents : W → Contents) where
  -- an instance that is behind learned the next ring
  pub behind_learns : (p p' : Player W) (i : ℕ) (old new : Report) → is_behind contents p i ≡ true →
      Reports old new (Happens contents p (event.Learn i) p') → Reports old new (LearnsIfBehind contents i p p')
  behind_learns p p' i old new behind (trace, grows, happens) =
      (trace, grows, either_first _ _ _ behind happens)

  -- one that isn't did nothing
  pub others_stay : (p : Player W) (i : ℕ) (report : Report) → is_behind contents p i ≡ false →
      Reports report report (LearnsIfBehind contents i p p)
  others_stay p i report behind = ([], grows_nothing report, either_second _ _ _ behind (refl, refl))

  -- one of the instances, and then the others
  pub each_more : (p mid p' : Player W) (numbers : List ℕ) (k : ℕ) (first rest : List Happened) →
      k < length numbers → LearnsIfBehind contents (get_or numbers k 0) p mid first →
      LearnsEach contents (drop (k + 1) numbers) mid p' rest → LearnsEach contents (drop k numbers) p p' (first ++ rest)
  each_more p mid p' numbers k first rest below learns later =
      let cut : drop k numbers ≡ get_or numbers k 0 ∷ drop (k + 1) numbers = rw add-one (drop-cons numbers k 0 below) in
      rw cut (mid, first, rest, learns, refl, later)

  -- instances learned in rounds and in one more
  pub rounds_more : (rounds : List (List Happened)) (p mid p' : Player W) (round : List Happened) →
      LearnsInRounds contents rounds p mid → LearnsEach contents all_instances mid p' round →
      LearnsInRounds contents (rounds ++ round ∷ []) p p'
  rounds_more [] p mid p' round same learns = (p', rw same at learns, refl)
  rounds_more (one ∷ rounds) p mid p' round (next, first, later) learns =
      (next, first, rounds_more rounds next mid p' round later learns)
