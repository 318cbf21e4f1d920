-- What is spelled is read again: messages. So no spelling begins another.
use Rattle.std.specs.Prelude.{◌==◌}
use Rattle.std.proofs.Common.{◌≡◌, ⊎_elim, ℕ, suc, ◌-◌, ◌<◌, ◌^◌, Bool, false, List, [], ◌∷◌, ◌++◌, length, take, Ok, Err, refl, sym, ap, ◌∙◌, append_assoc, append-nil, length-append, arith, IsTrue, inl, inr}
use Rattle.std.proofs.lemmas.Bool.{cases_lt}
use Rattle.std.proofs.lemmas.Bool.Decides.{eqb_tells, leb_tells}
use Rattle.std.proofs.lemmas.List.{length-take}
use Rattle.std.proofs.Math.Seq.{take-append-add}
use Rattle.am_tenant.specs.Names.{is_tenant_name}
use Rattle.am_wire.specs.declared.kinds.BodyKind.{BodyKind}
use Rattle.am_wire.specs.declared.kinds.BodyKind.TheVariants as kind
use Rattle.am_wire.specs.declared.refusal.WireRefusal.TheVariants.{BytesLeft, CutShort, FieldPastEnd}
use Rattle.am_wire.specs.Fields.{Reading, bytes_at, flag_bytes, number_at, number_bytes}
use Rattle.am_wire.specs.ItemFields.{items_bytes}
use Rattle.am_wire.specs.Messages.{IsBody, IsMessage, Spells, ack_at, answer_at, ask_at, body_at, body_bytes, body_kind_at, body_number, frame_at, get_at, got_at, inside, kind_of_body, message_at, message_of, message_version, put_at, spelling, state_at, tenant_at, version_at}
use Rattle.am_item.specs.declared.item.Item.{Item}
use Rattle.am_wire.specs.declared.message.Body.{Body}
use Rattle.am_wire.specs.declared.message.Body.TheVariants.{Get, Answer, Put, Ack, Ask, State, Got}
use Rattle.am_wire.specs.declared.message.Message.{Message}
use Rattle.am_wire.proofs.FieldsAgain.{bytes_again, flag_again, instance_again, number_again, short_back}
use Rattle.am_wire.proofs.Framed.{length-number_bytes}
use Rattle.am_wire.proofs.ItemsAgain.{items_again}

tenant_again : (tenant rest : List ℕ) → IsTrue (is_tenant_name tenant) → tenant_at (length tenant ∷ (tenant ++ rest)) ≡ Ok (tenant, rest)
unfolding tenant_at
tenant_again tenant rest is = rw (bytes_again (length tenant) tenant rest refl, is) refl

body_kind_again : (its_kind : BodyKind) (rest : List ℕ) → body_kind_at (body_number its_kind ∷ rest) ≡ Ok (its_kind, rest)
unfolding body_kind_at
body_kind_again kind.Get rest = refl
body_kind_again kind.Answer rest = refl
body_kind_again kind.Put rest = refl
body_kind_again kind.Ack rest = refl
body_kind_again kind.Ask rest = refl
body_kind_again kind.State rest = refl
body_kind_again kind.Got rest = refl

answer_again : (operation incarnation : ℕ) (items : List Item) (rest : List ℕ) → IsBody (Answer operation incarnation items) →
    length (body_bytes (Answer operation incarnation items)) < 2 ^ 32 →
    answer_at (body_bytes (Answer operation incarnation items) ++ rest) ≡ Ok (Answer operation incarnation items, rest)
unfolding answer_at body_bytes
answer_again operation incarnation items rest is short =
    let short_items = short_back (number_bytes 4 incarnation) (items_bytes items) (short_back (number_bytes 8 operation) (number_bytes 4 incarnation ++ items_bytes items) short) in
    let regrouped : (number_bytes 8 operation ++ (number_bytes 4 incarnation ++ items_bytes items)) ++ rest ≡
    number_bytes 8 operation ++ (number_bytes 4 incarnation ++ (items_bytes items ++ rest)) = simp append_assoc in
    ap answer_at regrouped
    ∙ rw (
      number_again 8 operation (number_bytes 4 incarnation ++ (items_bytes items ++ rest)) is.0,
      number_again 4 incarnation (items_bytes items ++ rest) is.1,
      items_again items rest is.2 short_items,
    ) refl

put_again : (operation : ℕ) (items : List Item) (rest : List ℕ) → IsBody (Put operation items) →
    length (body_bytes (Put operation items)) < 2 ^ 32 →
    put_at (body_bytes (Put operation items) ++ rest) ≡ Ok (Put operation items, rest)
unfolding put_at body_bytes
put_again operation items rest is short =
    ap put_at (append_assoc (number_bytes 8 operation) (items_bytes items) rest)
    ∙ rw (
      number_again 8 operation (items_bytes items ++ rest) is.0,
      items_again items rest is.1 (short_back (number_bytes 8 operation) (items_bytes items) short),
    ) refl

state_again : (incarnation place : ℕ) (is_last : Bool) (items : List Item) (rest : List ℕ) → IsBody (State incarnation place is_last items) →
    length (body_bytes (State incarnation place is_last items)) < 2 ^ 32 →
    state_at (body_bytes (State incarnation place is_last items) ++ rest) ≡ Ok (State incarnation place is_last items, rest)
unfolding state_at body_bytes
state_again incarnation place is_last items rest is short =
    let three : List ℕ = flag_bytes is_last ++ items_bytes items in
    let two : List ℕ = number_bytes 4 place ++ three in
    let short_items = short_back (flag_bytes is_last) (items_bytes items) (short_back (number_bytes 4 place) three
    (short_back (number_bytes 4 incarnation) two short)) in
    let last : List ℕ = items_bytes items ++ rest in
    let regrouped : (number_bytes 4 incarnation ++ two) ++ rest ≡
    number_bytes 4 incarnation ++ (number_bytes 4 place ++ (flag_bytes is_last ++ last)) = simp append_assoc in
    ap state_at regrouped
    ∙ rw (
      number_again 4 incarnation (number_bytes 4 place ++ (flag_bytes is_last ++ last)) is.0,
      number_again 4 place (flag_bytes is_last ++ last) is.1,
      flag_again is_last last,
      items_again items rest is.2 short_items,
    ) refl

body_again : (body : Body) (rest : List ℕ) → IsBody body → length (body_bytes body) < 2 ^ 32 →
    body_at (kind_of_body body) (body_bytes body ++ rest) ≡ Ok (body, rest)
unfolding body_at body_bytes get_at ack_at ask_at got_at
body_again (Get operation) rest is short = rw (number_again 8 operation rest is) refl
body_again (Answer operation incarnation items) rest is short = answer_again operation incarnation items rest is short
body_again (Put operation items) rest is short = put_again operation items rest is short
body_again (Ack operation incarnation) rest is short =
    ap ack_at (append_assoc (number_bytes 8 operation) (number_bytes 4 incarnation) rest)
    ∙ rw (number_again 8 operation (number_bytes 4 incarnation ++ rest) is.0, number_again 4 incarnation rest is.1) refl
body_again (Ask incarnation) rest is short = rw (number_again 4 incarnation rest is) refl
body_again (State incarnation place is_last items) rest is short = state_again incarnation place is_last items rest is short
body_again (Got incarnation place) rest is short =
    ap got_at (append_assoc (number_bytes 4 incarnation) (number_bytes 4 place) rest)
    ∙ rw (number_again 4 incarnation (number_bytes 4 place ++ rest) is.0, number_again 4 place rest is.1) refl

version_again : (rest : List ℕ) → version_at (message_version ∷ rest) ≡ Ok (message_version, rest)
unfolding version_at
version_again rest = refl

message_again : (m : Message) → IsMessage m → length (inside m) < 2 ^ 32 → message_at (inside m) ≡ Ok (m, [])
unfolding message_at inside
message_again m is short =
    let body : List ℕ = body_bytes m.body in
    let named : List ℕ = length m.tenant ∷ (m.tenant ++ body) in
    let dated : List ℕ = number_bytes 8 m.epoch ++ named in
    let counted : List ℕ = number_bytes 8 m.count ++ dated in
    let one : length (number_bytes 4 m.incarnation ++ m.to ∷ counted) < 2 ^ 32 = omega (arith, short) in
    let two = short_back (number_bytes 4 m.incarnation) (m.to ∷ counted) one in
    let three : length counted < 2 ^ 32 = omega (arith, two) in
    let four = short_back (number_bytes 8 m.epoch) named (short_back (number_bytes 8 m.count) dated three) in
    let five : length (m.tenant ++ body) < 2 ^ 32 = omega (arith, four) in
    let whole : body_at (kind_of_body m.body) body ≡ Ok (m.body, []) =
    ap (body_at (kind_of_body m.body)) (sym (append-nil body)) ∙ body_again m.body [] is.body (short_back m.tenant body five) in
    rw (
      version_again (body_number (kind_of_body m.body) ∷ (m.from ∷ (number_bytes 4 m.incarnation ++ m.to ∷ counted))),
      body_kind_again (kind_of_body m.body) (m.from ∷ (number_bytes 4 m.incarnation ++ m.to ∷ counted)),
      instance_again m.from (number_bytes 4 m.incarnation ++ m.to ∷ counted) is.from,
      number_again 4 m.incarnation (m.to ∷ counted) is.incarnation,
      instance_again m.to counted is.to,
      number_again 8 m.count dated is.count,
      number_again 8 m.epoch named is.epoch,
      tenant_again m.tenant body is.tenant,
      whole,
    ) refl

-- the stated length finds the message, whatever follows
frame_again : (m : Message) (rest : List ℕ) → length (inside m) < 2 ^ 32 → frame_at (spelling m ++ rest) ≡ Ok (inside m, rest)
unfolding frame_at spelling
frame_again m rest short =
    ap frame_at (append_assoc (number_bytes 4 (length (inside m))) (inside m) rest)
    ∙ rw (number_again 4 (length (inside m)) (inside m ++ rest) short, bytes_again (length (inside m)) (inside m) rest refl) refl

pub message_of_spelling : (m : Message) → IsMessage m → length (inside m) < 2 ^ 32 → message_of (spelling m) ≡ Ok m
unfolding message_of
message_of_spelling m is short =
    let framed : frame_at (spelling m) ≡ Ok (inside m, []) = ap frame_at (sym (append-nil (spelling m))) ∙ frame_again m [] short in
    rw (framed, message_again m is short) refl

-- a field that runs past the end
bytes_cut : (n : ℕ) (bytes : List ℕ) → length bytes < n → bytes_at n bytes ≡ Err FieldPastEnd
unfolding bytes_at
bytes_cut n bytes short = elim (leb_tells n (length bytes)) [
  | inl within ↦ absurd (omega (arith, within.1, short))
  | inr past ↦ rw past.0 refl
]

frame_cut : (m : Message) (k : ℕ) → length (inside m) < 2 ^ 32 → k < length (spelling m) → frame_at (take k (spelling m)) ≡ Err CutShort
unfolding frame_at spelling number_at
frame_cut m k short lt = elim (cases_lt k 4) [
  | inl few ↦
      let bytes : List ℕ = take k (number_bytes 4 (length (inside m)) ++ inside m) in
      rw (bytes_cut 4 bytes (omega (arith, few, length-take k (number_bytes 4 (length (inside m)) ++ inside m)))) refl
  | inr enough ↦
      let n : ℕ = length (inside m) in
      let long = length-number_bytes 4 n in
      let parted : take k (number_bytes 4 n ++ inside m) ≡ number_bytes 4 n ++ take (k - 4) (inside m) =
      ap (λ (i : ℕ). take i (number_bytes 4 n ++ inside m)) (omega (arith, long, enough)) ∙ take-append-add (number_bytes 4 n) (inside m) (k - 4) in
      let past : length (take (k - 4) (inside m)) < n =
      omega (arith, lt, enough, long, length-append (number_bytes 4 n) (inside m), length-take (k - 4) (inside m)) in
      ap frame_at parted ∙ rw (number_again 4 n (take (k - 4) (inside m)) short, bytes_cut n (take (k - 4) (inside m)) past) refl
]

pub spelling_read : (m : Message) (bytes : List ℕ) → Spells bytes m → message_of bytes ≡ Ok m
spelling_read m bytes spells = ap message_of spells.bytes_are ∙ message_of_spelling m spells.valid spells.short

pub spelling_cut : (m : Message) (bytes : List ℕ) (k : ℕ) → Spells bytes m → k < length bytes → message_of (take k bytes) ≡ Err CutShort
unfolding message_of
spelling_cut m bytes k spells lt =
    ap (λ (xs : List ℕ). message_of (take k xs)) spells.bytes_are
    ∙ rw (frame_cut m k spells.short (rw spells.bytes_are at lt)) refl

-- a list with an element isn't empty
some_length : (n : ℕ) → (suc n == 0) ≡ false
some_length n = ⊎_elim (λ same. absurd (omega (arith, same.1))) (λ apart. apart.0) (eqb_tells (suc n) 0)

pub spelling_more : (m : Message) (bytes behind : List ℕ) (byte : ℕ) → Spells bytes m → message_of (bytes ++ byte ∷ behind) ≡ Err BytesLeft
unfolding message_of
spelling_more m bytes behind byte spells =
    ap (λ (xs : List ℕ). message_of (xs ++ byte ∷ behind)) spells.bytes_are
    ∙ rw (frame_again m (byte ∷ behind) spells.short, message_again m spells.valid spells.short, some_length (length behind)) refl

abbrev done : {A : Type 0} → A → List ℕ → Reading A
done x rest = Ok (x, rest)

done_first : {A : Type 0} (x y : A) (xs ys : List ℕ) → done x xs ≡ done y ys → (x ≡ y) × (xs ≡ ys)
done_first {A} x y xs ys e =
    let p : A × List ℕ = (x, xs) in
    let q : A × List ℕ = (y, ys) in
    let pair : p ≡ q = cc in
    (ap (λ (r : A × List ℕ). r.0) pair, ap (λ (r : A × List ℕ). r.1) pair)

pub spellings_apart : (m k : Message) (a b x y : List ℕ) → Spells a m → Spells b k → a ++ x ≡ b ++ y → (m ≡ k) × (a ≡ b) × (x ≡ y)
spellings_apart m k a b x y first second e =
    let whole : spelling m ++ x ≡ spelling k ++ y =
    ap (λ (xs : List ℕ). xs ++ x) (sym first.bytes_are) ∙ e ∙ ap (λ (xs : List ℕ). xs ++ y) second.bytes_are in
    let framed : done (inside m) x ≡ done (inside k) y = sym (frame_again m x first.short) ∙ ap frame_at whole ∙ frame_again k y second.short in
    let parts = done_first (inside m) (inside k) x y framed in
    let read : done m [] ≡ done k [] = sym (message_again m first.valid first.short) ∙ ap message_at parts.0 ∙ message_again k second.valid second.short in
    let same = (done_first m k [] [] read).0 in
    (same, first.bytes_are ∙ ap spelling same ∙ sym second.bytes_are, parts.1)
