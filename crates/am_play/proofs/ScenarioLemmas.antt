-- What a source has left behind each of its lines, and what playing them comes to.
use Rattle.std.proofs.Common.{◌≡◌, ◌∙◌, ℕ, ◌+◌, List, [], ◌∷◌, ◌++◌, None, Some, IfSome}
use Rattle.std.proofs.Common.{refl, sym, ap, append_assoc, append-nil}
use Rattle.std.specs.Bool.{⊤}
use Rattle.am_scenario.specs.Line.{command_of}
use Rattle.am_world.specs.Consistent.{Contents}
use Rattle.am_stream.specs.Link.{Answers, Carries}
use Rattle.am_play.specs.Playing.{Does, Plays}
use Rattle.am_play.specs.Scenario.{Course}
use Rattle.am_stream.specs.Streams.{GivesLine, KnownLines}
use Rattle.am_play.specs.Trace.{Happened}
use Rattle.am_scenario.specs.declared.command.Command.{Command}
use Rattle.am_report.specs.declared.ending.Played.{Played}
use Rattle.am_report.specs.declared.ending.Played.TheVariants.{All, BadLine}
use Rattle.am_play.specs.declared.play.Player.{Player}

-- lines came, and of known lines the others are left
abbrev pub Rest : KnownLines → KnownLines → List (List ℕ) → Type 0
Rest None left lines = ⊤
Rest (Some all) None lines = ⊥
Rest (Some all) (Some left) lines = lines ++ left ≡ all

-- what is left after one line more
rest_more : (known old new : KnownLines) (lines : List (List ℕ)) (line : List ℕ) → Rest known old lines →
    GivesLine old (Some line) new → Rest known new (lines ++ line ∷ [])
rest_more None old new lines line rest gives = tt
rest_more (Some all) None new lines line rest gives = absurd rest
rest_more (Some all) (Some left) None lines line rest gives = absurd gives
rest_more (Some all) (Some left) (Some others) lines line rest gives =
    append_assoc lines (line ∷ []) others ∙ ap (λ l. lines ++ l) (sym gives) ∙ rest

module _ {W : Type 0} (contents : W → Contents) (carries : Carries) (answers : Answers) where
  -- n lines were played, and this happened; whatever the others come to follows
  pub record Upto (start : Player W) (known : KnownLines) (p : Player W) (left : KnownLines) (n : ℕ)
      (trace : List Happened) : Type 0 where
    pub lines : List (List ℕ)
    pub rest : Rest known left lines
    pub plays : (others : List (List ℕ)) (played : Played) (more : List Happened) (end : Player W) →
        Plays contents carries answers (n + 1) p others played more end →
        Plays contents carries answers 1 start (lines ++ others) played (trace ++ more) end

  pub upto_first : (start : Player W) (known : KnownLines) → Upto start known start known 0 []
  upto_first start known =
      record { lines = []; rest = by known; plays = λ others played more end plays. plays }
    where
      by : (known : KnownLines) → Rest known known []
      by None = tt
      by (Some all) = refl

  pub upto_more : (start p mid : Player W) (known old new : KnownLines) (n : ℕ) (line : List ℕ) (command : Command)
      (trace first : List Happened) → Upto start known p old n trace → GivesLine old (Some line) new →
      command_of line ≡ Some command → Does contents carries answers p command mid first →
      Upto start known mid new (n + 1) (trace ++ first)
  upto_more start p mid known old new n line command trace first upto gives is does = record {
    lines = upto.lines ++ line ∷ [];
    rest = rest_more known old new upto.lines line upto.rest gives;
    plays = λ others played more end plays. rw
        (append_assoc upto.lines (line ∷ []) others, append_assoc trace first more)
        (upto.plays (line ∷ others) played (first ++ more) end (rw is (mid, first, more, does, refl, plays)));
  }

  -- these others are left
  ends_with : (start p : Player W) (known left : KnownLines) (n : ℕ) (trace : List Happened)
      (upto : Upto start known p left n trace) (others : List (List ℕ)) (played : Played) →
      Plays contents carries answers (n + 1) p others played [] p →
      IfSome known (λ known. upto.lines ++ others ≡ known) →
      Course contents carries answers start known played trace p
  ends_with start p known left n trace upto others played plays read = record {
    lines = upto.lines ++ others;
    are_read = read;
    plays = rw append-nil at (upto.plays others played [] p plays);
  }

  -- a line that is no command ends it
  pub upto_bad : (start p : Player W) (known left new : KnownLines) (n : ℕ) (line : List ℕ) (trace : List Happened) →
      Upto start known p left n trace → GivesLine left (Some line) new → command_of line ≡ None →
      Course contents carries answers start known (BadLine (n + 1)) trace p
  upto_bad start p None left new n line trace upto gives bad =
      ends_with start p None left n trace upto (line ∷ []) (BadLine (n + 1)) (rw bad (refl, refl, refl)) tt
  upto_bad start p (Some all) None new n line trace upto gives bad = absurd upto.rest
  upto_bad start p (Some all) (Some left) None n line trace upto gives bad = absurd gives
  upto_bad start p (Some all) (Some left) (Some others) n line trace upto gives bad =
      ends_with start p (Some all) (Some left) n trace upto (line ∷ others) (BadLine (n + 1))
      (rw bad (refl, refl, refl)) (ap (λ l. upto.lines ++ l) (sym gives) ∙ upto.rest)

  -- the source's end does
  pub upto_end : (start p : Player W) (known left new : KnownLines) (n : ℕ) (trace : List Happened) →
      Upto start known p left n trace → GivesLine left None new →
      Course contents carries answers start known All trace p
  upto_end start p None left new n trace upto gives =
      ends_with start p None left n trace upto [] All (refl, refl, refl) tt
  upto_end start p (Some all) None new n trace upto gives = absurd upto.rest
  upto_end start p (Some all) (Some left) new n trace upto gives =
      ends_with start p (Some all) (Some left) n trace upto [] All (refl, refl, refl)
      (ap (λ l. upto.lines ++ l) (sym gives) ∙ upto.rest)
