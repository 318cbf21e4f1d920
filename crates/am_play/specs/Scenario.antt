-- A whole scenario: its lines, and what playing them comes to.
use Rattle.std.specs.Prelude.{◌≡◌, ◌⊎◌, ℕ, List, [], ◌++◌, Option, IfSome}
use Rattle.am_item.specs.declared.item.Item.{Item}
use Rattle.am_world.specs.Changes.{AreOpenedClean}
use Rattle.am_world.specs.Consistent.{Contents}
use Rattle.am_world.specs.Opening.{Opens}
use Rattle.am_world.specs.Runs.{Alone, Origin, first_watch, names_once}
use Rattle.am_world.specs.Shelves.{NeverCleaner, Shelf}
use Rattle.am_world.specs.Simulation.{fault_count, roster_of}
use Rattle.am_report.specs.declared.ending.Played.{Played}
use Rattle.am_play.specs.declared.play.Player.{Player}
use Rattle.am_stream.specs.Link.{Answers, Carries}
use Rattle.am_play.specs.Playing.{IsStart, Plays}
use Rattle.am_report.specs.Ending.{ending}
use Rattle.am_stream.specs.Streams.{KnownLines}
use Rattle.am_play.specs.Trace.{Happened, events, no_fault, outputs, printed, shelves_after, unbuilt}
use Rattle.am_stream.specs.Writing.{AppendsPart}

-- the bytes that a sink holds, where they are known
abbrev pub Known : Type 0
Known = Option (List ℕ)

module _ {W : Type 0} (contents : W → Contents) where
  -- lines were played over a link, and this happened; they are the source's, where those are known
  pub record Course (carries : Carries) (answers : Answers) (start : Player W) (known : KnownLines)
      (played : Played) (trace : List Happened) (end : Player W) : Type 0 where
    pub lines : List (List ℕ)
    pub are_read : IfSome known (λ known. lines ≡ known)
    pub plays : Plays contents carries answers 1 start lines played trace end

  -- .. from a world on, which is this afterwards, and in which so many faults came
  pub record Scenario (carries : Carries) (answers : Answers) (c : Contents) (known : KnownLines)
      (played : Played) (trace : List Happened) (faults : ℕ) (c' : Contents) : Type 0 where
    pub start : Player W
    pub is_start : IsStart contents c start
    pub end : Player W
    pub course : Course carries answers start known played trace end
    pub counted : faults ≡ fault_count c'.state
    pub ends : c' ≡ contents end.world

-- wherever a trace from a world on is cut: where no fault came before the cut, and each store that was opened before it
-- is in memory or its disk has returned what was written by then, each tenant is as if alone until there
abbrev pub AloneUntilFault : Origin → (rows : List ℕ → ℕ → List Item) → Contents → List Happened → Type 0
AloneUntilFault origin rows c trace = (first rest : List Happened) → trace ≡ first ++ rest → no_fault first →
    AreOpenedClean (roster_of c.state) (events first) (shelves_after c.shelves first) →
    names_once (first_watch origin) (events first) → Alone origin rows (events first) (unbuilt first) (outputs first)

-- A trace from a world on that was opened over stores with these rows, and what is seen of its stores afterwards: each
-- tenant is as if alone, where no fault came, no connection's name was used twice, and each store that was opened on
-- the way is in memory or its disk has returned what was written; and so until a fault. A store whose disk has returned
-- what was written by the end had done so before that too.
pub record IsolatesTenants (c : Contents) (trace : List Happened) (faults : ℕ) (shelves : List Shelf) : Type 0 where
  pub alone : (origin : Origin) (rows : List ℕ → ℕ → List Item) → Opens origin rows c → faults ≡ 0 →
      AreOpenedClean (roster_of c.state) (events trace) shelves → names_once (first_watch origin) (events trace) →
      Alone origin rows (events trace) (unbuilt trace) (outputs trace)
  pub until_fault : (origin : Origin) (rows : List ℕ → ℕ → List Item) → Opens origin rows c →
      AloneUntilFault origin rows c trace
  pub clean : (first rest : List Happened) → trace ≡ first ++ rest →
      NeverCleaner (shelves_after c.shelves first) shelves

module _ {W : Type 0} (contents : W → Contents) where
  -- a stream or the memory failed: lines were played, the source's first where those are known, this happened, and a
  -- first part of what is written of it was written. The ending is written behind the source's last line alone
  pub record CourseBreaks (carries : Carries) (answers : Answers) (start : Player W) (known : KnownLines)
      (old new : Known) : Type 0 where
    pub lines : List (List ℕ)
    pub others : List (List ℕ)
    pub are_read : IfSome known (λ known. lines ++ others ≡ known)
    pub played : Played
    pub trace : List Happened
    pub end : Player W
    pub plays : Plays contents carries answers 1 start lines played trace end
    pub written : AppendsPart old new (printed trace)
        ⊎ ((others ≡ []) × AppendsPart old new (printed trace ++ ending played
        (fault_count (contents end.world).state)))

  -- .. from a world on; each tenant is as if alone until a fault
  pub record ScenarioBreaks (carries : Carries) (answers : Answers) (c : Contents) (known : KnownLines)
      (old new : Known) : Type 0 where
    pub start : Player W
    pub is_start : IsStart contents c start
    pub course : CourseBreaks carries answers start known old new
    pub until_fault : (origin : Origin) (rows : List ℕ → ℕ → List Item) → Opens origin rows c →
        AloneUntilFault origin rows c course.trace
