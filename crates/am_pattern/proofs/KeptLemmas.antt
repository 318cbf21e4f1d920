-- What the entries of a cache are after an answer.
use Rattle.std.proofs.Common.{◌≡◌, ℕ, zero, suc, ◌*◌, ◌-◌, ◌<◌, ◌≤◌, Bool, true, false, cond, ◌||◌, List, [], ◌∷◌, All, take, length, Contains, None, Some, is_some, refl, sym, ap, ◌∙◌, subst, true≢false, arith}
use Rattle.std.specs.List.{take-map}
use Rattle.std.specs.Map.{lookup, lookup_entry, remove_entry}
use Rattle.std.specs.Set.{remove_key}
use Rattle.std.specs.Str.{bytes_eq}
use Rattle.std.proofs.Math.Nat.{mul-le-mul_right}
use Rattle.std.proofs.lemmas.List.{take_all, length-take, length-map}
use Rattle.std.proofs.lemmas.List.Sums.{sum_by-cons}
use Rattle.std.proofs.lemmas.List.Elements.{All-contains, All-contains_itself, All-weaker, All-cons, All-take, All-head, All-tail}
use Rattle.std.proofs.lemmas.Slice.Eq.{bytes_eq-Decides}
use Rattle.lru.specs.LruCache.{LruCache, promoted, put_entries}
use Rattle.lru.proofs.CallerLemmas.{Contains-lookup_entry, Contains-promoted}
use Rattle.am_pattern.specs.Taking.{anchored, is_shallow}
use Rattle.am_pattern.specs.Refused.{has_text}
use Rattle.am_pattern.specs.Kept.{Compiled, IsBuiltFor, IsSound, HasRegex, texts_of, size_of, asked_first, largest}

module _ {K V : Type 0} (test : K → Bool) where
  -- where a value is found, so is its entry
  pub found_entry : (es : List (K × V)) (v : V) → lookup test es ≡ Some v → (k : K) × (lookup_entry test es ≡ Some (k, v))
  found_entry [] v h = cc
  found_entry ((k, w) ∷ es) v h = (elim (test k) as (λ b. test k ≡ b → (j : K) × (lookup_entry test ((k, w) ∷ es) ≡ Some (j, v))) [
    | true ↦ λ t. let h' = rw t at h in let same : w ≡ v = cc in (k, rw (t, same) refl)
    | false ↦ λ t. let on = found_entry es v (rw t at h) in (on.0, rw t on.1)
  ]) refl

  -- where none is found, there is no entry
  pub no_entry : (es : List (K × V)) → is_some (lookup test es) ≡ false → lookup_entry test es ≡ None
  no_entry [] h = refl
  no_entry ((k, w) ∷ es) h = (elim (test k) as (λ b. test k ≡ b → lookup_entry test ((k, w) ∷ es) ≡ None) [
    | true ↦ λ t. absurd (true≢false (rw t at h))
    | false ↦ λ t. rw t (no_entry es (rw t at h))
  ]) refl

  pub length-remove : (es : List (K × V)) (e : K × V) → lookup_entry test es ≡ Some e → suc (length (remove_entry test es)) ≡ length es
  length-remove [] e h = cc
  length-remove (f ∷ es) e h = (elim (test f.0) as (λ b. test f.0 ≡ b → suc (length (remove_entry test (f ∷ es))) ≡ suc (length es)) [
    | true ↦ λ t. rw t refl
    | false ↦ λ t. rw t (ap suc (length-remove es e (rw t at h)))
  ]) refl

module _ {K : Type 0} (text : K → List ℕ) (p : List ℕ) where
  -- an entry of the text p
  abbrev pub is_of : K → Bool
  is_of k = bytes_eq p (text k)

  -- a text is kept where it has an entry
  pub kept-lookup : (es : List (K × Compiled)) → has_text (texts_of text es) p ≡ is_some (lookup is_of es)
  kept-lookup [] = refl
  kept-lookup ((k, v) ∷ es) = (elim (is_of k) as (λ b. is_of k ≡ b →
      (b || has_text (texts_of text es) p) ≡ is_some (cond b (Some v) (lookup is_of es))) [
        | true ↦ λ t. refl
        | false ↦ λ t. kept-lookup es
      ]) refl

  texts-remove : (es : List (K × Compiled)) → texts_of text (remove_entry is_of es) ≡ remove_key (bytes_eq p) (texts_of text es)
  texts-remove [] = refl
  texts-remove ((k, v) ∷ es) = (elim (is_of k) as (λ b. is_of k ≡ b →
      texts_of text (cond b es ((k, v) ∷ remove_entry is_of es)) ≡ cond b (texts_of text es) (text k ∷ remove_key (bytes_eq p) (texts_of text es))) [
        | true ↦ λ t. refl
        | false ↦ λ t. ap (λ ts. text k ∷ ts) (texts-remove es)
      ]) refl

  -- the text of the entry that is found
  pub text-found : (es : List (K × Compiled)) (e : K × Compiled) → lookup_entry is_of es ≡ Some e → text e.0 ≡ p
  text-found es e h = sym ((bytes_eq-Decides p (text e.0)).0 (Contains-lookup_entry is_of es e h).1)

  -- it goes first
  pub texts-promoted : (es : List (K × Compiled)) (v : Compiled) (n : ℕ) → lookup is_of es ≡ Some v → length es ≤ n →
      texts_of text (promoted is_of es) ≡ asked_first n (texts_of text es) p
  texts-promoted es v n h fits =
      let found = found_entry is_of es v h in
      let shorter = length-remove is_of es (found.0, v) found.1 in
      let len = length-map (remove_entry is_of es) (λ e. text e.0) in
      rw (found.1, text-found es (found.0, v) found.1, ← texts-remove es)
      (sym (take_all n (p ∷ texts_of text (remove_entry is_of es)) (omega (arith, shorter, fits, len))))

  -- it was built for that text
  pub built-found : (es : List (K × Compiled)) (v : Compiled) → All (IsBuiltFor text) es → lookup is_of es ≡ Some v →
      (is_shallow p ≡ true) × (v.source ≡ anchored p) × HasRegex p
  built-found es v built h =
      let found = found_entry is_of es v h in
      let at = (Contains-lookup_entry is_of es (found.0, v) found.1).0 in
      let is = All-contains (IsBuiltFor text) es (found.0, v) built at in
      let same = text-found es (found.0, v) found.1 in
      (rw same at is.shallow, rw same at is.source, rw same at is.regex)

  pub sound-promoted : (es : List (K × Compiled)) (v : Compiled) (n : ℕ) → lookup is_of es ≡ Some v → IsSound text es n →
      IsSound text (promoted is_of es) n
  sound-promoted es v n h sound =
      let found = found_entry is_of es v h in
      let shorter = length-remove is_of es (found.0, v) found.1 in
      let len : length (promoted is_of es) ≡ suc (length (remove_entry is_of es)) = rw found.1 refl in
      record {
        built = All-weaker (Contains (promoted is_of es)) (IsBuiltFor text) (λ e at. All-contains (IsBuiltFor text) es e sound.built (Contains-promoted is_of es e at))
            (promoted is_of es) (All-contains_itself (promoted is_of es));
        fits = let fits = sound.fits in omega (arith, shorter, fits, len);
        room = sound.room;
      }

  absent_key : (ts : List (List ℕ)) → has_text ts p ≡ false → remove_key (bytes_eq p) ts ≡ ts
  absent_key [] h = refl
  absent_key (t ∷ ts) h = (elim (bytes_eq p t) as (λ b. bytes_eq p t ≡ b → (b || has_text ts p) ≡ false → cond b ts (t ∷ remove_key (bytes_eq p) ts) ≡ t ∷ ts) [
    | true ↦ λ e g. absurd (true≢false g)
    | false ↦ λ e g. ap (λ us. t ∷ us) (absent_key ts g)
  ]) refl h

  take_first : (n : ℕ) (x : List ℕ) (xs : List (List ℕ)) → 0 < n → x ∷ take (n - 1) xs ≡ take n (x ∷ xs)
  take_first zero x xs room = absurd (omega (arith, room))
  take_first (suc n) x xs room = let e : suc n - 1 ≡ n = omega arith in rw e refl

  module _ (k : K) (v : Compiled) (c : LruCache K Compiled) (key : text k ≡ p) (missing : has_text (texts_of text c.entries) p ≡ false) where
    -- the entries once k is put
    abbrev after : List (K × Compiled)
    after = put_entries (λ x y. bytes_eq (text x) (text y)) c k v

    put_first : after ≡ (k, v) ∷ take (c.cap - 1) c.entries
    put_first = rw (key, no_entry is_of c.entries (sym (kept-lookup c.entries) ∙ missing)) refl

    -- a new entry goes first, and pushes the last out of a full cache
    pub texts-put : 0 < c.cap → texts_of text (after) ≡ asked_first c.cap (texts_of text c.entries) p
    texts-put room =
        rw (put_first, key, ← take-map (λ e. text e.0) (c.cap - 1) c.entries, absent_key (texts_of text c.entries) missing)
        (take_first c.cap p (texts_of text c.entries) room)

    pub sound-put : IsSound text c.entries c.cap → IsBuiltFor text (k, v) → IsSound text (after) c.cap
    sound-put sound is =
        let len = length-take (c.cap - 1) c.entries in
        let room = sound.room in
        subst (λ es. IsSound text es c.cap) (sym put_first) (record {
          built = All-cons (IsBuiltFor text) (k, v) (take (c.cap - 1) c.entries) is (All-take (IsBuiltFor text) (c.cap - 1) c.entries sound.built);
          fits = omega (arith, len, room);
          room = room;
        })

module _ {K : Type 0} (text : K → List ℕ) where
  size-each : (es : List (K × Compiled)) → All (IsBuiltFor text) es → size_of es ≤ length es * largest
  size-each [] built = omega arith
  size-each (e ∷ es) built =
      let first = (All-head (IsBuiltFor text) e es built).small in
      let rest = size-each es (All-tail (IsBuiltFor text) e es built) in
      let sum = sum_by-cons (λ (f : K × Compiled). f.1.size) e es in
      omega (arith, first, rest, sum)

  -- what is kept is bounded
  pub size-sound : (es : List (K × Compiled)) (n : ℕ) → IsSound text es n → size_of es ≤ n * largest
  size-sound es n sound =
      let each = size-each es sound.built in
      let all = mul-le-mul_right largest sound.fits in
      omega (arith, each, all)
