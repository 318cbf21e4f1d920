-- What a row of a store says, and which rows a statement finds.
use Rattle.std.proofs.Common.{◌≡◌, inl, inr, ℕ, ℤ, Bool, true, false, ◌&&◌, List, [], ◌∷◌, append-nil, drop, Option, Some, None, unwrap_or, refl, sym, ap, ◌∙◌}
use Rattle.std.specs.Cmp.Lexicographic.{slice_cmp}
use Rattle.std.specs.Ordering.{is_eq, nat_cmp}
use Rattle.std.proofs.lemmas.Bool.{cases_Bool}
use Rattle.std.proofs.lemmas.Map.Text.{is_eq-slice_cmp}
use Rattle.sqlite_value.proofs.OrderLemmas.{value_cmp-Text}
use Rattle.sqlite.specs.declared.types.Value.TheVariants.{Int, Text}
use Rattle.sqlite.specs.Order.{Row}
use Rattle.sqlite_value.specs.Order.{value_cmp}
use Rattle.sqlite.specs.Tree.{rowid}
use Rattle.sqlite.specs.Ops.{binary, from_truth, is_true}
use Rattle.uuid.specs.Text.{parsed}
use Rattle.am_tenant.specs.Names.{same}
use Rattle.am_tenant.proofs.Same.{eq_from_same, is_eq-name_cmp, same-refl, same-sym}
use Rattle.am_match.specs.Spelling.{spelling}
use Rattle.am_match.specs.Taking.{taken}
use Rattle.am_match.proofs.RoundTrip.{taken_back}
use Rattle.am_item.specs.declared.stamp.Stamp.{Stamp}
use Rattle.am_item.specs.Key.{key_cmp}
use Rattle.am_item.specs.declared.key.ThingKey.TheVariants.{Configuration as ConfigurationKey, Silence as SilenceKey}
use Rattle.am_store.specs.Apart.{HasId}
use Rattle.am_store.specs.Rows.{IsConfig, IsSilence, IsSilenceRow, body_in, body_value, config_fields, config_in, id_text, matchers_in, silence_fields, silence_in}
use Rattle.am_store.specs.Stored.{ConfigurationText, SilenceText, SilenceWords, Stored, stamped}
use Rattle.am_store.specs.Where.{hit, of_silence, of_tenant}
use Rattle.am_store.proofs.Latest.{Pair, is_at}

-- ---- tests of WHERE

pub truth_is : (b : Bool) → is_true (from_truth (Some b)) ≡ b
truth_is true = refl
truth_is false = refl

and_true : (b : Bool) → (b && true) ≡ b
and_true true = refl
and_true false = refl

-- a text of a row is a parameter
abbrev pub text_is : List ℕ → List ℕ → Bool
text_is a b = is_eq (slice_cmp nat_cmp a b)

hit_tenant : (t tenant : List ℕ) (id : ℤ) (rest : Row) → hit of_tenant (Text t ∷ []) (Int id ∷ Text tenant ∷ rest) ≡ same t tenant
unfolding binary
hit_tenant t tenant id rest =
    and_true _ ∙ truth_is _ ∙ ap is_eq (value_cmp-Text tenant t) ∙ is_eq-name_cmp tenant t ∙ same-sym tenant t

hit_both : (t tenant i name : List ℕ) (id : ℤ) (rest : Row) → hit of_silence (Text t ∷ Text i ∷ []) (Int id ∷ Text tenant ∷ Text name ∷ rest) ≡ (same t tenant && same i name)
unfolding binary
hit_both t tenant i name id rest =
    let one : is_true (from_truth (Some (is_eq (value_cmp (Text tenant) (Text t))))) ≡ same t tenant =
    truth_is _ ∙ ap is_eq (value_cmp-Text tenant t) ∙ is_eq-name_cmp tenant t ∙ same-sym tenant t in
    let two : is_true (from_truth (Some (is_eq (value_cmp (Text name) (Text i))))) ≡ same i name =
    truth_is _ ∙ ap is_eq (value_cmp-Text name i) ∙ is_eq-name_cmp name i ∙ same-sym name i in
    ap (λ b. b && (is_true (from_truth (Some (is_eq (value_cmp (Text name) (Text i))))) && true)) one ∙ ap (λ b. same t tenant && b) (and_true _ ∙ two)

-- ---- what rows say

body_back : (body : Option (List ℕ)) → body_in (body_value body) ≡ body
body_back None = refl
body_back (Some text) = refl

pub config_said : (id : ℤ) (tenant : List ℕ) (stamp : Stamp) (body : Option (List ℕ)) → config_in (Int id ∷ config_fields tenant stamp body) ≡ (tenant, stamped stamp (ConfigurationText body))
config_said id tenant stamp body = ap (λ b. (tenant, stamped stamp (ConfigurationText b))) (body_back body)

matchers_back : (s : SilenceText) → IsSilence s → matchers_in (taken (spelling s.matchers)) ≡ s.matchers
matchers_back s valid =
    ap (λ bytes. matchers_in (taken bytes)) (sym (append-nil (spelling s.matchers)))
    ∙ ap matchers_in (taken_back s.matchers (spelling s.matchers) [] (record { bytes_are = refl; spellable = valid.spellable; valid = valid.matchers }))

pub silence_said : (id : ℤ) (tenant : List ℕ) (stamp : Stamp) (s : SilenceText) → IsSilence s → silence_in (Int id ∷ silence_fields tenant stamp s) ≡ (tenant, stamped stamp (SilenceWords s))
silence_said id tenant stamp s valid =
    ap (λ name. (tenant, stamped stamp (SilenceWords (record s { id = name; matchers = matchers_in (taken (spelling s.matchers)) }))))
    (ap (λ o. unwrap_or o []) valid.id)
    ∙ ap (λ ms. (tenant, stamped stamp (SilenceWords (record s { matchers = ms })))) (matchers_back s valid)

-- ---- rows of a store

module _ (row : Row) (is : IsConfig row) where
  abbrev x : Stored
  x = stamped is.stamp (ConfigurationText is.body)

  pub config_says : config_in row ≡ (is.tenant, x)
  config_says = ap config_in is.is ∙ config_said is.rowid is.tenant is.stamp is.body

  pub config_id : HasId row
  config_id = (is.rowid, ap rowid is.is)

  pub config_of_tenant : (t : List ℕ) → hit of_tenant (Text t ∷ []) row ≡ same t (config_in row).0
  config_of_tenant t =
      ap (hit of_tenant (Text t ∷ [])) is.is ∙ hit_tenant t is.tenant is.rowid (drop 1 (config_fields is.tenant is.stamp is.body)) ∙ ap (λ (p : Pair). same t p.0) (sym config_says)

  pub config_at : (t : List ℕ) → hit of_tenant (Text t ∷ []) row ≡ is_at t ConfigurationKey (config_in row)
  unfolding key_cmp
  config_at t =
      ap (hit of_tenant (Text t ∷ [])) is.is ∙ hit_tenant t is.tenant is.rowid (drop 1 (config_fields is.tenant is.stamp is.body)) ∙ sym (and_true (same t is.tenant)) ∙ ap (is_at t ConfigurationKey) (sym config_says)

  pub config_no_silence : (t id : List ℕ) → is_at t (SilenceKey id) (config_in row) ≡ false
  unfolding key_cmp
  config_no_silence t id = ap (is_at t (SilenceKey id)) config_says ∙ and_false (same t is.tenant)
    where
      and_false : (b : Bool) → (b && false) ≡ false
      and_false true = refl
      and_false false = refl

module _ (row : Row) (is : IsSilenceRow row) where
  abbrev y : Stored
  y = stamped is.stamp (SilenceWords is.silence)

  pub silence_says : silence_in row ≡ (is.tenant, y)
  silence_says = ap silence_in is.is ∙ silence_said is.rowid is.tenant is.stamp is.silence is.valid

  pub silence_id : HasId row
  silence_id = (is.rowid, ap rowid is.is)

  pub silence_of_tenant : (t : List ℕ) → hit of_tenant (Text t ∷ []) row ≡ same t (silence_in row).0
  silence_of_tenant t =
      ap (hit of_tenant (Text t ∷ [])) is.is ∙ hit_tenant t is.tenant is.rowid (drop 1 (silence_fields is.tenant is.stamp is.silence)) ∙ ap (λ (p : Pair). same t p.0) (sym silence_says)

  same_ids : (id : List ℕ) → parsed (id_text id) ≡ Some id → same (id_text id) (id_text is.silence.id) ≡ same id is.silence.id
  same_ids id back = elim (cases_Bool (same id is.silence.id)) [
    | inl one ↦ ap (λ i. same (id_text i) (id_text is.silence.id)) (eq_from_same id is.silence.id one) ∙ same-refl (id_text is.silence.id) ∙ sym one
    | inr two ↦ elim (cases_Bool (same (id_text id) (id_text is.silence.id))) [
      | inl texts ↦
          let one : id ≡ is.silence.id =
          ap (λ o. unwrap_or o []) (sym back ∙ ap parsed (eq_from_same (id_text id) (id_text is.silence.id) texts) ∙ is.valid.id) in
          absurd (let e = sym (ap (λ i. same i is.silence.id) one ∙ same-refl is.silence.id) ∙ two in cc)
      | inr apart ↦ apart ∙ sym two
    ]
  ]

  pub silence_at : (t id : List ℕ) → parsed (id_text id) ≡ Some id → hit of_silence (Text t ∷ Text (id_text id) ∷ []) row ≡ is_at t (SilenceKey id) (silence_in row)
  unfolding key_cmp same
  silence_at t id back =
      ap (hit of_silence (Text t ∷ Text (id_text id) ∷ [])) is.is ∙ hit_both t is.tenant (id_text id) (id_text is.silence.id) is.rowid (drop 2 (silence_fields is.tenant is.stamp is.silence))
      ∙ ap (λ b. same t is.tenant && b) (same_ids id back ∙ sym (is_eq-slice_cmp id is.silence.id))
      ∙ ap (is_at t (SilenceKey id)) (sym silence_says)

  pub silence_no_config : (t : List ℕ) → is_at t ConfigurationKey (silence_in row) ≡ false
  unfolding key_cmp
  silence_no_config t = ap (is_at t ConfigurationKey) silence_says ∙ and_false (same t is.tenant)
    where
      and_false : (b : Bool) → (b && false) ≡ false
      and_false true = refl
      and_false false = refl
