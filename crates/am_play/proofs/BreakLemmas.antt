-- What a scenario came to of which a stream or the memory failed.
use Rattle.std.proofs.Common.{◌≡◌, ◌∙◌, ℕ, List, [], ◌++◌, Option, None, Some, IfSome, inl, inr}
use Rattle.std.proofs.Common.{refl, sym, subst, append-nil}
use Rattle.std.proofs.lemmas.List.Concat.{flat_map-append}
use Rattle.std.specs.Io.KnownBytes.{Appends}
use Rattle.am_world.specs.Consistent.{Contents}
use Rattle.am_world.specs.Opening.{Opens}
use Rattle.am_world.specs.Simulation.{fault_count}
use Rattle.am_play.proofs.ScenarioLemmas.{Rest, Upto}
use Rattle.am_play.proofs.TraceLemmas.{course_alone, course_clean, course_until_fault}
use Rattle.am_stream.proofs.WritingLemmas.{part_later}
use Rattle.am_stream.specs.Link.{Answers, Carries}
use Rattle.am_play.specs.Playing.{IsStart}
use Rattle.am_report.specs.Ending.{ending}
use Rattle.am_play.specs.Scenario.{AloneUntilFault, CourseBreaks, Course, IsolatesTenants, ScenarioBreaks}
use Rattle.am_stream.specs.Streams.{KnownLines}
use Rattle.am_play.specs.Trace.{Happened, printed, text_of}
use Rattle.am_stream.specs.Writing.{AppendsPart}
use Rattle.am_report.specs.declared.ending.Played.{Played}
use Rattle.am_report.specs.declared.ending.Played.TheVariants.{All}
use Rattle.am_play.specs.declared.play.Player.{Player}

-- the lines that weren't played
others_of : (known left : KnownLines) (lines : List (List ℕ)) → Rest known left lines →
    (others : List (List ℕ)) × IfSome known (λ known. lines ++ others ≡ known)
others_of None left lines rest = ([], tt)
others_of (Some all) None lines rest = absurd rest
others_of (Some all) (Some left) lines rest = (left, rest)

all_read : (known : KnownLines) (lines : List (List ℕ)) → IfSome known (λ known. lines ≡ known) →
    IfSome known (λ known. lines ++ [] ≡ known)
all_read None lines read = tt
all_read (Some all) lines read = append-nil lines ∙ read

module _ {W : Type 0} (contents : W → Contents) (carries : Carries) (answers : Answers) (start : Player W)
    (known : KnownLines) (old new : Option (List ℕ)) where
  -- some lines were played
  pub upto_breaks : (p : Player W) (left : KnownLines) (n : ℕ) (trace : List Happened) →
      Upto contents carries answers start known p left n trace → AppendsPart old new (printed trace) →
      CourseBreaks contents carries answers start known old new
  upto_breaks p left n trace upto written =
      let others = others_of known left upto.lines upto.rest in
      record {
        lines = upto.lines;
        others = others.0;
        are_read = others.1;
        played = All;
        trace = trace;
        end = p;
        plays = rw (append-nil upto.lines, append-nil trace) at (upto.plays [] All [] p (refl, refl, refl));
        written = inl written;
      }

  -- all lines were played
  pub course_breaks : (played : Played) (trace : List Happened) (end : Player W) →
      Course contents carries answers start known played trace end →
      AppendsPart old new (printed trace ++ ending played (fault_count (contents end.world).state)) →
      CourseBreaks contents carries answers start known old new
  course_breaks played trace end course written = record {
    lines = course.lines;
    others = [];
    are_read = all_read known course.lines course.are_read;
    played = played;
    trace = trace;
    end = end;
    plays = course.plays;
    written = inr (refl, written);
  }

  -- .. from a new world on
  pub scenario_breaks : (c : Contents) → IsStart contents c start →
      CourseBreaks contents carries answers start known old new →
      ScenarioBreaks contents carries answers c known old new
  scenario_breaks c is_start course = record {
    start = start;
    is_start = is_start;
    course = course;
    until_fault = λ origin rows opens.
        subst (λ (begun : Contents). AloneUntilFault origin rows begun course.trace) is_start.begins
        (course_until_fault contents carries answers origin rows start None course.played course.trace course.end
        (subst (Opens origin rows) (sym is_start.begins) opens)
        (record { lines = course.lines; are_read = tt; plays = course.plays }));
  }

-- all of a scenario was played from a world on
pub isolates : {W : Type 0} (contents : W → Contents) (carries : Carries) (answers : Answers) (start : Player W)
    (known : KnownLines) (c : Contents) → IsStart contents c start → (played : Played) (trace : List Happened)
    (end : Player W) → Course contents carries answers start known played trace end →
    IsolatesTenants c trace (fault_count (contents end.world).state) (contents end.world).shelves
isolates contents carries answers start known c is_start played trace end course =
    let faults = fault_count (contents end.world).state in
    let shelves = (contents end.world).shelves in
    let at_start : IsolatesTenants (contents start.world) trace faults shelves = record {
      alone = λ origin rows opens.
          course_alone contents carries answers origin rows start known played trace end opens course;
      until_fault = λ origin rows opens.
          course_until_fault contents carries answers origin rows start known played trace end opens course;
      clean = course_clean contents carries answers start known played trace end course;
    } in
    subst (λ (begun : Contents). IsolatesTenants begun trace faults shelves) is_start.begins at_start

-- the lines of a trace were written, and then a first part of those of what followed
pub trace_later : (a b c : Option (List ℕ)) (trace more : List Happened) → Appends a b (printed trace) →
    AppendsPart b c (printed more) → AppendsPart a c (printed (trace ++ more))
trace_later a b c trace more h k =
    rw (flat_map-append text_of trace more) (part_later a b c (printed trace) (printed more) h k)
