-- What is asked of a socket, and what it comes to.
use Rattle.std.specs.Prelude.{◌≡◌, ℕ, Bool, true, false, ◌||◌, List, [], ◌∷◌, ◌++◌, Option, Some, None, Result, Ok, Err, ⊤}
use Rattle.am_serve.specs.declared.socket.Moved.{Moved}
use Rattle.am_serve.specs.declared.socket.Moved.TheVariants.{Bytes, Blocked, Interrupted, Broken}

-- what was asked of a socket, and what it came to
pub data Act : Type 0 where
  -- a read, and the bytes that it gave
  Read : Moved → List ℕ → Act
  -- a write, and the bytes that it took
  Write : Moved → List ℕ → Act
  -- it was told that nothing more is written
  Finish : Act
  -- it was asked whether its connection stands: it does, it doesn't yet, or it failed
  Ask : Option Bool → Act

-- whether the connection stands, where that isn't known to have failed
abbrev pub answer_of : {E : Type 0} → Result Bool E → Option Bool
answer_of (Ok stands) = Some stands
answer_of (Err _) = None

-- a connection that came in stands, or failed
abbrev pub standing : Bool → Option Bool
standing true = Some true
standing false = None

-- there is a byte
abbrev pub has_byte : List ℕ → Bool
has_byte [] = false
has_byte (_ ∷ _) = true

-- bytes were moved, or a signal came first
abbrev pub may_go_on : Moved → Bool
may_go_on (Bytes _) = true
may_go_on Blocked = false
may_go_on Interrupted = true
may_go_on Broken = false

-- the bytes that were read
abbrev pub read_by : Act → List ℕ
read_by (Read _ bytes) = bytes
read_by (Write _ _) = []
read_by Finish = []
read_by (Ask _) = []

-- the bytes that were written
abbrev pub written_by : Act → List ℕ
written_by (Read _ _) = []
written_by (Write _ bytes) = bytes
written_by Finish = []
written_by (Ask _) = []

-- a byte was read or written
abbrev pub moves_byte : Act → Bool
moves_byte (Read _ bytes) = has_byte bytes
moves_byte (Write _ bytes) = has_byte bytes
moves_byte Finish = false
moves_byte (Ask _) = false

-- the socket may be asked for more at once
abbrev pub goes_on : Act → Bool
goes_on (Read moved _) = may_go_on moved
goes_on (Write moved _) = may_go_on moved
goes_on Finish = false
goes_on (Ask None) = false
goes_on (Ask (Some stands)) = stands

-- the bytes that were read, end to end
abbrev pub read_in : List Act → List ℕ
read_in [] = []
read_in (act ∷ acts) = read_by act ++ read_in acts

-- the bytes that were written, end to end
abbrev pub written_in : List Act → List ℕ
written_in [] = []
written_in (act ∷ acts) = written_by act ++ written_in acts

-- some byte was read or written
abbrev pub moves_in : List Act → Bool
moves_in [] = false
moves_in (act ∷ acts) = moves_byte act || moves_in acts

-- after each the socket may be asked for more at once
abbrev pub AllGoOn : List Act → Type 0
AllGoOn [] = ⊤
AllGoOn (act ∷ acts) = (goes_on act ≡ true) × AllGoOn acts

-- the acts end with these, and go on before
pub record EndsWith (last acts : List Act) : Type 0 where
  pub before : List Act
  pub goes : AllGoOn before
  pub all : acts ≡ before ++ last

-- reads and writes come only once the connection stands, which is asked before; it stood, and stands then
abbrev pub Connects : Bool → List Act → Bool → Type 0
Connects old [] new = new ≡ old
Connects old (Ask (Some stands) ∷ acts) new = (old ≡ false) × Connects stands acts new
Connects old (Ask None ∷ acts) new = (old ≡ false) × Connects old acts new
Connects old (Read _ _ ∷ acts) new = (old ≡ true) × Connects old acts new
Connects old (Write _ _ ∷ acts) new = (old ≡ true) × Connects old acts new
Connects old (Finish ∷ acts) new = (old ≡ true) × Connects old acts new
