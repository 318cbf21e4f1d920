-- Bytes on their way out.
use Rattle.std.specs.Prelude.{◌≡◌, ℕ, ◌≤◌, List, [], ◌∷◌, length, drop, vec_len}
use Rattle.am_serve.specs.Sockets.{count_of}
use Rattle.am_serve.specs.declared.socket.Moved.{Moved}
use Rattle.am_serve.specs.declared.outgoing.Outgoing.{Outgoing}

-- what wasn't sent yet
abbrev pub unsent : Outgoing → List ℕ
unsent outgoing = drop outgoing.sent outgoing.bytes.items

-- a first part of the bytes was sent, and the rest is left
abbrev pub Sends : Moved → List ℕ → List ℕ → Type 0
Sends moved before after = (count_of moved ≤ length before) × (after ≡ drop (count_of moved) before)

-- as many bytes as there are in all, as long as some aren't sent
abbrev pub unless_sent : List ℕ → ℕ → ℕ
unless_sent [] count = 0
unless_sent (_ ∷ _) count = count

-- how many bytes it holds
unfoldable pub undelivered : Outgoing → ℕ
undelivered outgoing = unless_sent (unsent outgoing) (vec_len outgoing.bytes)
