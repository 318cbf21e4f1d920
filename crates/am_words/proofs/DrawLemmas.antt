-- Draws of identifiers, one after the other.
use Rattle.std.proofs.Common.{◌≡◌, ℕ, ◌+◌, ◌-◌, ◌*◌, ◌%◌, ◌^◌, ◌<◌, suc, true, false, not, cond, List, ◌++◌, Some, None, Option, Bor, refl, sym, ap, ◌∙◌, arith, find, subst}
use Rattle.std.specs.Option.{is_some, option_copied, option_map}
use Rattle.rand_core.specs.Steps.{fill_via_u32, word_bytes}
use Rattle.rand_chacha.specs.ChaCha.{ChaCha, next_word, word_at}
use Rattle.am_item.specs.Best.{item_at}
use Rattle.am_item.specs.declared.key.ThingKey.TheVariants.{Silence as SilenceKey}
use Rattle.am_item.specs.declared.item.Item.{Item}
use Rattle.am_words.specs.Draws.{bytes_at, bytes_from, draws, first_unheld, id_from, is_held}
use Rattle.am_words.specs.Words.{words_in, place_after}

-- the places of the four words
next_place : (p a b : ℕ) → a + 1 ≡ b → (place_after p a + 1) % 2 ^ 68 ≡ place_after p b
next_place p a b e = omega arith

-- the bytes of words at four places, and the generator at a place after them
abbrev bytes_at_places : ChaCha → ℕ → ℕ → ℕ → ℕ → ℕ → List ℕ × ChaCha
bytes_at_places g a b c d after =
    let words = words_in g in
    (bytes_at words a ++ bytes_at words b ++ bytes_at words c ++ bytes_at words d, record g { word_pos = after })

-- sixteen bytes of a generator
pub filled : (g : ChaCha) → fill_via_u32 (next_word 10) 16 g ≡ (bytes_from (words_in g) g.word_pos, record g { word_pos = place_after g.word_pos 4 })
unfolding word_bytes
filled g =
    let p = g.word_pos in
    let two = next_place p 1 2 refl in
    let three : (((p + 1) % 2 ^ 68 + 1) % 2 ^ 68 + 1) % 2 ^ 68 ≡ place_after p 3 = ap (λ q. (q + 1) % 2 ^ 68) two ∙ next_place p 2 3 refl in
    let four : ((((p + 1) % 2 ^ 68 + 1) % 2 ^ 68 + 1) % 2 ^ 68 + 1) % 2 ^ 68 ≡ place_after p 4 = ap (λ q. (q + 1) % 2 ^ 68) three ∙ next_place p 3 4 refl in
    ap (λ c. bytes_at_places g p (place_after p 1) c ((((p + 1) % 2 ^ 68 + 1) % 2 ^ 68 + 1) % 2 ^ 68) (((((p + 1) % 2 ^ 68 + 1) % 2 ^ 68 + 1) % 2 ^ 68 + 1) % 2 ^ 68)) two
    ∙ ap (λ d. bytes_at_places g p (place_after p 1) (place_after p 2) d (((((p + 1) % 2 ^ 68 + 1) % 2 ^ 68 + 1) % 2 ^ 68 + 1) % 2 ^ 68)) three
    ∙ ap (λ after. bytes_at_places g p (place_after p 1) (place_after p 2) (place_after p 3) after) four

-- ---- one draw after the other

-- the first identifier that isn't held, of so many draws from a place on
abbrev first_of : List Item → (ℕ → ℕ) → ℕ → ℕ → Option (List ℕ × ℕ)
first_of items words more place = find (λ draw. not (is_held items draw.0)) (draws words more place)

-- what was drawn so far: so many identifiers of one generator, which are all held
pub record Drawn (items : List Item) (old new : ChaCha) (made : ℕ) : Type 0 where
  pub key : new.key ≡ old.key
  pub stream : new.stream ≡ old.stream
  pub within : new.word_pos < 2 ^ 68
  pub first : first_of items (words_in old) (8 - made) new.word_pos ≡ first_of items (words_in old) 8 old.word_pos
  pub last : place_after new.word_pos (4 * (8 - made)) ≡ place_after old.word_pos 32

pub none_drawn : (items : List Item) (g : ChaCha) → g.word_pos < 2 ^ 68 → Drawn items g g 0
none_drawn items g within = record { key = refl; stream = refl; within = within; first = refl; last = refl }

same_words : (items : List Item) (old new : ChaCha) (made : ℕ) → Drawn items old new made → words_in new ≡ words_in old
same_words items old new made d = ap (λ key. word_at 10 key new.stream) d.key ∙ ap (word_at 10 old.key) d.stream

-- of the draws that are left the next one decides, or those after it do
first_or_later : (items : List Item) (words : ℕ → ℕ) (made place : ℕ) → made < 8
    → first_of items words (8 - made) place
    ≡ cond (not (is_held items (id_from words place))) (Some (id_from words place, place_after place 4)) (first_of items words (8 - suc made) (place_after place 4))
first_or_later items words made place less =
    let more : 8 - made ≡ suc (8 - suc made) = omega arith in
    ap (λ n. first_of items words n place) more

pub one_drawn : (items : List Item) (old new next : ChaCha) (made : ℕ) → made < 8 → Drawn items old new made
    → next ≡ record new { word_pos = place_after new.word_pos 4 } → is_held items (id_from (words_in new) new.word_pos) ≡ true
    → Drawn items old next (suc made)
one_drawn items old new next made less d is_next is_known =
    let words = same_words items old new made d in
    let known : is_held items (id_from (words_in old) new.word_pos) ≡ true = ap (λ w. is_held items (id_from w new.word_pos)) (sym words) ∙ is_known in
    let later = first_of items (words_in old) (8 - suc made) (place_after new.word_pos 4) in
    subst (λ (g : ChaCha). Drawn items old g (suc made)) (sym is_next) (record {
      key = d.key;
      stream = d.stream;
      within = omega arith;
      first = ap (λ b. cond (not b) (Some (id_from (words_in old) new.word_pos, place_after new.word_pos 4)) later) (sym known)
          ∙ sym (first_or_later items (words_in old) made new.word_pos less) ∙ d.first;
      last = (let last = d.last in omega arith);
    })

pub unheld_drawn : (items : List Item) (old new : ChaCha) (made : ℕ) → made < 8 → Drawn items old new made
    → is_held items (id_from (words_in new) new.word_pos) ≡ false
    → first_unheld (words_in old) old.word_pos items ≡ Some (id_from (words_in new) new.word_pos, place_after new.word_pos 4)
unheld_drawn items old new made less d is_new =
    let words = same_words items old new made d in
    let fresh : is_held items (id_from (words_in old) new.word_pos) ≡ false = ap (λ w. is_held items (id_from w new.word_pos)) (sym words) ∙ is_new in
    let later = first_of items (words_in old) (8 - suc made) (place_after new.word_pos 4) in
    sym d.first ∙ first_or_later items (words_in old) made new.word_pos less
    ∙ ap (λ b. cond (not b) (Some (id_from (words_in old) new.word_pos, place_after new.word_pos 4)) later) fresh
    ∙ ap (λ w. Some (id_from w new.word_pos, place_after new.word_pos 4)) (sym words)

-- a generator of the same key and stream
pub moved : (old new : ChaCha) (place : ℕ) → new.key ≡ old.key → new.stream ≡ old.stream → new.word_pos ≡ place → new ≡ record old { word_pos = place }
moved old new place key stream word_pos =
    let keyed : List ℕ → ChaCha = λ k. record { key = k; stream = new.stream; word_pos = new.word_pos } in
    let streamed : ℕ → ChaCha = λ s. record { key = old.key; stream = s; word_pos = new.word_pos } in
    let placed : ℕ → ChaCha = λ p. record { key = old.key; stream = old.stream; word_pos = p } in
    ap keyed key ∙ ap streamed stream ∙ ap placed word_pos

pub all_held : (items : List Item) (old new : ChaCha) → Drawn items old new 8
    → (first_unheld (words_in old) old.word_pos items ≡ None) × (new.word_pos ≡ place_after old.word_pos 32)
all_held items old new d =
    let last = d.last in let within = d.within in
    (sym d.first, omega arith)

-- an identifier is held where something stands under it
pub is_held-by : {S : Type 0} (items : List Item) (id : List ℕ) (item : S → Item) (held : Option S) → option_map item held ≡ item_at (SilenceKey id) items
    → is_held items id ≡ is_some held
is_held-by items id item None e = ap is_some (sym e)
is_held-by items id item (Some s) e = ap is_some (sym e)

-- a borrowed value is there where a copy of it is
pub some_copied : {T : Type 0} (o : Option (Bor T)) → is_some o ≡ is_some (option_copied o)
some_copied None = refl
some_copied (Some b) = refl
