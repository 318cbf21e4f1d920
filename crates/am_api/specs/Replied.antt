-- What is decided on a request: what is stored, and the reply.
use Rattle.std.specs.Prelude.{ℕ, List, [], Option, None}
use Rattle.am_http.specs.Replies.{refusal}
use Rattle.am_item.specs.declared.item.Item.{Item}

-- the items that are stored, in order, the status and the body of the reply, and, where words of the tenant were drawn,
-- the place of the next one
pub record Decision : Type 0 where
  pub items : List Item
  pub status : ℕ
  pub body : List ℕ
  pub drawn : Option ℕ

-- items are stored, and no word is drawn
abbrev pub stored : List Item → ℕ → List ℕ → Decision
stored items status body = record { items = items; status = status; body = body; drawn = None }

-- a reply, and nothing is stored
abbrev pub replied : ℕ → List ℕ → Decision
replied status body = stored [] status body

-- a refusal shows its code, and nothing is stored
abbrev pub refused : ℕ → List ℕ → Decision
refused status code = replied status (refusal code)
