-- What a router of literal routes, and one that ends with a parameter, finds at a path.
use Rattle.std.proofs.Common.{◌≡◌, ℕ, ◌+◌, ◌-◌, ◌<◌, Bool, true, false, ◌&&◌, ◌||◌, not, zero, suc, List, [], ◌∷◌, ◌++◌, length, refl, sym, ap, subst, ◌∙◌, arith, cond, ◌==◌, Option, Some, None, nat_lt}
use Rattle.std.specs.List.{list_all, list_any}
use Rattle.std.specs.Str.{bytes_eq}
use Rattle.std.proofs.lemmas.Bool.Decides.{nat_tests, Decides-ltb}
use Rattle.matchit.specs.Rows.{RowsOf}
use Rattle.matchit.specs.Seek.{seek, step, own, param_step, has_slash, or_else as or_next}
use Rattle.am_http.specs.Paths.{below, is_segment}

-- bytes, and so no tokens of parameters
abbrev pub Bytes : List ℕ → Type 0
Bytes [] = Unit {0}
Bytes (b ∷ bytes) = (b < 256) × Bytes bytes

both : (a b : Bool) → (a && b) ≡ true → (a ≡ true) × (b ≡ true)
both a b h = grind arith

pub Bytes-test : (bytes : List ℕ) → list_all (λ b. nat_lt b 256) bytes ≡ true → Bytes bytes
Bytes-test [] h = tt
Bytes-test (b ∷ bytes) h =
    let p = both (nat_lt b 256) (list_all (λ c. nat_lt c 256) bytes) h in
    ((Decides-ltb b 256).0 p.0, Bytes-test bytes p.1)

-- each row is literal
abbrev pub Literal : {K : Type 0} → RowsOf K → Type 0
Literal [] = Unit {0}
Literal (row ∷ rows) = Bytes row.0 × Literal rows

not_token : (x : ℕ) → x < 256 → ((x == 256) ≡ false) × ((x == 257) ≡ false)
not_token x h = (grind (arith, nat_tests), grind (arith, nat_tests))

other_order : (a b : ℕ) → (a == b) ≡ (b == a)
other_order a b = grind (arith, nat_tests)

or_next-none : {K : Type 0} (o : Option K) → or_next o None ≡ o
or_next-none None = refl
or_next-none (Some key) = refl

or_next-assoc : {K : Type 0} (a b c : Option K) → or_next (or_next a b) c ≡ or_next a (or_next b c)
or_next-assoc None b c = refl
or_next-assoc (Some key) b c = refl

-- a parameter leads nowhere where there are no rows
param_none : {K : Type 0} (path : List ℕ) → (param_step {K = K} [] path).1 ≡ []
unfolding param_step
param_none {K} path =
    elim (has_slash path) as (λ b. (cond {A = ℕ × RowsOf K} b (0, []) (length path, [])).1 ≡ []) [ true ↦ refl | false ↦ refl ]

-- without rows nothing is found
pub nothing : {K : Type 0} (n : ℕ) (path : List ℕ) → seek {K = K} n [] path ≡ None
unfolding seek
nothing n [] = refl
nothing {K} (suc n) (b ∷ path) = nothing {K = K} n path
nothing {K} zero (b ∷ path) =
    rw (nothing {K = K} 0 path, param_none {K = K} (b ∷ path), nothing {K = K} ((param_step {K = K} [] (b ∷ path)).0 - 1) path) refl

-- the first row goes on with the byte, or not
by_byte : {K : Type 0} (t : Bool) (bytes : List ℕ) (key : K) (rows : RowsOf K) (path : List ℕ) (after : Option K)
    → seek 0 ((bytes, key) ∷ rows) path ≡ or_next (cond (bytes_eq path bytes) (Some key) None) (seek 0 rows path)
    → or_next (seek 0 (cond t ((bytes, key) ∷ rows) rows) path) after
    ≡ or_next (cond (t && bytes_eq path bytes) (Some key) None) (or_next (seek 0 rows path) after)
by_byte true bytes key rows path after rest =
    ap (λ o. or_next o after) rest ∙ or_next-assoc (cond (bytes_eq path bytes) (Some key) None) (seek 0 rows path) after
by_byte false bytes key rows path after rest = refl

-- a literal row is found by its path, and the rows after it by any other
pub row_first : {K : Type 0} (bytes : List ℕ) (key : K) (rows : RowsOf K) (path : List ℕ) → Bytes bytes
    → seek 0 ((bytes, key) ∷ rows) path ≡ or_next (cond (bytes_eq path bytes) (Some key) None) (seek 0 rows path)
unfolding seek
row_first [] key rows [] h = refl
row_first (x ∷ bytes) key rows [] h = refl
row_first [] key rows (b ∷ path) h = refl
row_first (x ∷ bytes) key rows (b ∷ path) h =
    let t = not_token x h.0 in
    rw (t.0, t.1, other_order x b) (by_byte (b == x) bytes key (step b rows) path _ (row_first bytes key (step b rows) path h.1))

-- ---- a route that ends with a parameter

-- no literal row goes on with a parameter
no_params : {K : Type 0} (rows : RowsOf K) (token : ℕ) → 256 < token + 1 → Literal rows → step token rows ≡ []
no_params [] token big h = refl
no_params (([], key) ∷ rows) token big h = no_params rows token big h.1
no_params ((x ∷ bytes, key) ∷ rows) token big h =
    let small : x < 256 = h.0.0 in
    let other : (x == token) ≡ false = grind (arith, nat_tests) in
    rw other (no_params rows token big h.1)

step_literal : {K : Type 0} (rows : RowsOf K) (b : ℕ) → Literal rows → Literal (step b rows)
step_literal [] b h = tt
step_literal (([], key) ∷ rows) b h = step_literal rows b h.1
step_literal ((x ∷ bytes, key) ∷ rows) b h =
    elim (x == b) as (λ t. Literal (cond t ((bytes, key) ∷ step b rows) (step b rows))) [
      | true ↦ (h.0.1, step_literal rows b h.1)
      | false ↦ step_literal rows b h.1
    ]

-- a literal row is followed by its bytes alone
literal_step : {K : Type 0} (rows : RowsOf K) (b : ℕ) (path : List ℕ) → Literal rows → seek 0 rows (b ∷ path) ≡ seek 0 (step b rows) path
unfolding seek
literal_step {K} rows b path l =
    rw (
      no_params rows 256 (omega arith) l,
      no_params rows 257 (omega arith) l,
      param_none {K = K} (b ∷ path),
      nothing {K = K} ((param_step {K = K} [] (b ∷ path)).0 - 1) path,
    )
    (or_next-none (seek 0 (step b rows) path))

-- the whole path is skipped
skip_all : {K : Type 0} (n : ℕ) (rows : RowsOf K) (path : List ℕ) → n ≡ length path → seek n rows path ≡ own rows
unfolding seek
skip_all zero rows [] e = refl
skip_all (suc n) rows [] e = absurd (omega arith)
skip_all zero rows (b ∷ path) e = absurd (omega arith)
skip_all (suc n) rows (b ∷ path) e = skip_all n rows path (omega arith)

-- a parameter that nothing follows takes a path without a slash
at_param : {K : Type 0} (key : K) (b : ℕ) (path : List ℕ)
    → seek ((param_step (([], key) ∷ []) (b ∷ path)).0 - 1) (param_step (([], key) ∷ []) (b ∷ path)).1 path
    ≡ cond (has_slash (b ∷ path)) None (Some key)
unfolding param_step
at_param {K} key b path =
    elim (has_slash (b ∷ path)) as (λ t. seek ((cond {A = ℕ × RowsOf K} t (0, []) (length (b ∷ path), ([], key) ∷ [])).0 - 1) (cond {A = ℕ × RowsOf K} t (0, []) (length (b ∷ path), ([], key) ∷ [])).1 path ≡ cond t None (Some key)) [
      | true ↦ nothing {K = K} 0 path
      | false ↦ skip_all (length (b ∷ path) - 1) (([], key) ∷ []) path (omega arith)
    ]

has_slash-any : (bytes : List ℕ) → has_slash bytes ≡ list_any (λ b. b == 47) bytes
has_slash-any [] = refl
has_slash-any (b ∷ bytes) = rw (has_slash-any bytes) (elim (b == 47) as (λ t. cond t true (list_any (λ c. c == 47) bytes) ≡ (t || list_any (λ c. c == 47) bytes)) [ true ↦ refl | false ↦ refl ])

turned : {K : Type 0} (t : Bool) (key : K) → cond t None (Some key) ≡ cond (true && not t) (Some key) None
turned true key = refl
turned false key = refl

one_more : (b : ℕ) (bytes : List ℕ) → nat_lt 0 (length (b ∷ bytes)) ≡ true
one_more b bytes = grind (arith, nat_tests)

-- .. which is one segment
at_segment : {K : Type 0} (key : K) (b : ℕ) (path : List ℕ) → cond (has_slash (b ∷ path)) None (Some key) ≡ cond (is_segment (b ∷ path)) (Some key) None
at_segment key b path = rw (one_more b path, ← has_slash-any (b ∷ path)) (turned (has_slash (b ∷ path)) key)

-- what follows the token of a parameter itself
at_token : {K : Type 0} (key : K) (rows : RowsOf K) (path : List ℕ) → Literal rows
    → seek 0 ((256 ∷ [], key) ∷ rows) (256 ∷ path) ≡ or_next (seek 0 rows (256 ∷ path)) (cond (is_segment (256 ∷ path)) (Some key) None)
unfolding seek
at_token {K} key rows path l =
    rw (
      no_params rows 256 (omega arith) l,
      no_params rows 257 (omega arith) l,
      param_none {K = K} (256 ∷ path),
      nothing {K = K} ((param_step {K = K} [] (256 ∷ path)).0 - 1) path,
      nothing {K = K} 0 path,
      at_param key 256 path,
      at_segment key 256 path,
    )
    (by_path path)
  where
    by_path : (path : List ℕ)
        → or_next (seek 0 (([], key) ∷ []) path) (or_next (cond (is_segment (256 ∷ path)) (Some key) None) None) ≡ cond (is_segment (256 ∷ path)) (Some key) None
    by_path [] = refl
    by_path (c ∷ path) =
        rw (row_first [] key [] (c ∷ path) tt, nothing {K = K} 0 (c ∷ path)) (or_next-none (cond (is_segment (256 ∷ c ∷ path)) (Some key) None))

-- a parameter as the whole pattern
param_alone : {K : Type 0} (key : K) (rows : RowsOf K) (b : ℕ) (path : List ℕ) → Literal rows → (t : Bool) → (256 == b) ≡ t
    → seek 0 ((256 ∷ [], key) ∷ rows) (b ∷ path) ≡ or_next (seek 0 rows (b ∷ path)) (cond (is_segment (b ∷ path)) (Some key) None)
unfolding seek
param_alone key rows b path l true e =
    let same : 256 ≡ b = grind (arith, nat_tests) in
    subst (λ (c : ℕ). seek 0 ((256 ∷ [], key) ∷ rows) (c ∷ path) ≡ or_next (seek 0 rows (c ∷ path)) (cond (is_segment (c ∷ path)) (Some key) None)) same (at_token key rows path l)
param_alone {K} key rows b path l false e =
    rw (
      e,
      no_params rows 256 (omega arith) l,
      no_params rows 257 (omega arith) l,
      param_none {K = K} (b ∷ path),
      nothing {K = K} ((param_step {K = K} [] (b ∷ path)).0 - 1) path,
      at_param key b path,
      at_segment key b path,
      or_next-none (seek 0 (step b rows) path),
      or_next-none (cond (is_segment (b ∷ path)) (Some key) None),
    )
    refl

-- the row with the parameter goes on with the byte, or not
param_by_byte : {K : Type 0} (t : Bool) (bytes : List ℕ) (key : K) (rows : RowsOf K) (path : List ℕ)
    → seek 0 ((bytes ++ 256 ∷ [], key) ∷ rows) path ≡ or_next (seek 0 rows path) (cond (is_segment (below bytes path)) (Some key) None)
    → seek 0 (cond t ((bytes ++ 256 ∷ [], key) ∷ rows) rows) path
    ≡ or_next (seek 0 rows path) (cond (is_segment (cond t (below bytes path) [])) (Some key) None)
param_by_byte true bytes key rows path rest = rest
param_by_byte false bytes key rows path rest = sym (or_next-none (seek 0 rows path))

-- a row that ends with a parameter is found by its bytes and one segment more, where no literal row is
pub row_param : {K : Type 0} (bytes : List ℕ) (key : K) (rows : RowsOf K) (path : List ℕ) → Bytes bytes → Literal rows
    → seek 0 ((bytes ++ 256 ∷ [], key) ∷ rows) path ≡ or_next (seek 0 rows path) (cond (is_segment (below bytes path)) (Some key) None)
unfolding seek
row_param [] key rows [] h l = sym (or_next-none (own rows))
row_param (x ∷ bytes) key rows [] h l = sym (or_next-none (own rows))
row_param [] key rows (b ∷ path) h l = param_alone key rows b path l (256 == b) refl
row_param {K} (x ∷ bytes) key rows (b ∷ path) h l =
    let t = not_token x h.0 in
    rw (
      t.0,
      t.1,
      no_params rows 256 (omega arith) l,
      no_params rows 257 (omega arith) l,
      param_none {K = K} (b ∷ path),
      nothing {K = K} ((param_step {K = K} [] (b ∷ path)).0 - 1) path,
      or_next-none (seek 0 (step b rows) path),
      or_next-none (seek 0 (cond (x == b) ((bytes ++ 256 ∷ [], key) ∷ step b rows) (step b rows)) path),
    )
    (param_by_byte (x == b) bytes key (step b rows) path (row_param bytes key (step b rows) path h.1 (step_literal rows b l)))
