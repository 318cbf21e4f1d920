-- What is posted, and what a private cluster sent: under each name they are alike, until they are lost.
use Rattle.std.proofs.Common.{◌≡◌, ℕ, ◌+◌, ◌≤◌, ◌<◌, min, Bool, true, false, ◌&&◌, ◌||◌, cond, Contains, List}
use Rattle.std.proofs.Common.{[], ◌∷◌, ◌++◌}
use Rattle.std.proofs.Common.{map, find, Option, Some, None, if◌then◌else◌, refl, sym, ap, subst, ◌∙◌, inl, inr, arith}
use Rattle.std.specs.Prelude.{nat_le, ◌==◌}
use Rattle.std.specs.List.{list_any}
use Rattle.std.specs.Option.{option_or}
use Rattle.std.proofs.lemmas.Bool.{and_parts, eqb-true, false_from_ne_true, false≢true, leb-true, or_from}
use Rattle.std.proofs.lemmas.List.{append-nil, append_assoc}
use Rattle.std.proofs.lemmas.List.Elements.{Contains-append_right}
use Rattle.std.proofs.lemmas.List.Folds.{find-append, list_any-append}
use Rattle.am_cluster.specs.Events.{Notice, Output, Reply, Send}
use Rattle.am_cluster.specs.Messages.{Message}
use Rattle.am_cluster.specs.Outputs.{is_tenant, outputs_of, owner}
use Rattle.am_cluster.specs.PrivateCluster.{output_of}
use Rattle.am_cluster.specs.Reactions.{Replies, Said, Sends, Tells, messages_in}
use Rattle.am_cluster.specs.Sent.{Sent, is_lost, is_named, sent_at, with_given_up}
use Rattle.am_cluster.specs.SentFacts.{AreNamedOnce, has_name_of}
use Rattle.am_cluster.proofs.Posted.{as_new, contained, contains-map, found_before, found_besides, lost_later}
use Rattle.am_cluster.proofs.Posted.{named_by, none_before, none_found, parts_of}
use Rattle.am_cluster.specs.View.{Watch}
use Rattle.am_item.specs.Retirement.{moment_after}
use Rattle.am_messages.specs.Names.{name_of, same_name}
use Rattle.am_messages.specs.Posted.{Loses, message_life, posted_at, unlost}
use Rattle.am_messages.specs.declared.messages.Posted.{Posted}
use Rattle.am_messages.specs.declared.name.MessageName.{MessageName}
use Rattle.am_messages.proofs.Orders.{name_itself, one_name}
use Rattle.am_tenant.specs.Names.{same}
use Rattle.am_tenant.proofs.Same.{same-refl}
use Rattle.am_text.specs.Moment.{greatest_moment}
use Rattle.am_world.specs.Posting.{Post, Posts, is_of_name, posted_by, posted_over, unlost_sent}

-- ---- one after the other

-- what stands under a name once the first and then the others are put out
pub posted_then : (moment : ℕ) (xs ys : List Output) (name : MessageName) (before : Option Posted)
    → posted_over moment (xs ++ ys) name before ≡ posted_over moment ys name (posted_over moment xs name before)
posted_then moment [] ys name before = refl
posted_then moment (x ∷ xs) ys name before = posted_then moment xs ys name (posted_by moment x name before)

pub posts_then : (moment : ℕ) (xs ys : List Output) (old mid new : Post) → Posts moment xs old mid
    → Posts moment ys mid new → Posts moment (xs ++ ys) old new
posts_then moment xs ys old mid new first second name =
    second name ∙ ap (posted_over moment ys name) (first name)
    ∙ sym (posted_then moment xs ys name (posted_at name old))

-- ---- names

-- the name of a message of a tenant
abbrev pub named : (tenant : List ℕ) → (from incarnation to count : ℕ) → MessageName
named tenant from incarnation to count =
    record { tenant = tenant; from = from; incarnation = incarnation; to = to; count = count }

-- two tests that hold alike
alike : (a b : Bool) → (a ≡ true → b ≡ true) → (b ≡ true → a ≡ true) → a ≡ b
alike true b there back = sym (there refl)
alike false b there back = sym (false_from_ne_true b (λ e. false≢true (back e)))

-- in its tenant a message has a name where its private cluster says so
pub same_name_named : (tenant : List ℕ) (from incarnation to count : ℕ) (s : Sent) → s.message.tenant ≡ tenant
    → same_name (name_of s.message) (named tenant from incarnation to count)
    ≡ is_named from incarnation to count s
same_name_named tenant from incarnation to count s own =
    alike (same_name (name_of s.message) (named tenant from incarnation to count))
    (is_named from incarnation to count s)
    (λ e.
    let same = one_name (name_of s.message) (named tenant from incarnation to count) e in
    named_by from incarnation to count s (record {
      from = ap (λ (n : MessageName). n.from) same;
      incarnation = ap (λ (n : MessageName). n.incarnation) same;
      to = ap (λ (n : MessageName). n.to) same;
      count = ap (λ (n : MessageName). n.count) same;
    }))
    (λ e.
    let h = parts_of from incarnation to count s e in
    let same : name_of s.message ≡ named tenant from incarnation to count =
    λ d. named (own d) (h.from d) (h.incarnation d) (h.to d) (h.count d) in
    ap (λ (n : MessageName). same_name (name_of s.message) n) (sym same) ∙ name_itself (name_of s.message))

-- names of two tenants differ
names_apart : (a b : MessageName) → same b.tenant a.tenant ≡ false → same_name a b ≡ false
names_apart a b other = false_from_ne_true (same_name a b) (λ e.
    let of_one : a.tenant ≡ b.tenant = ap (λ (n : MessageName). n.tenant) (one_name a b e) in
    false≢true (sym other ∙ ap (λ t. same t a.tenant) (sym of_one) ∙ same-refl a.tenant))

-- so that a message has no name of another tenant
pub same_name_other : (m : Message) (name : MessageName) → same name.tenant m.tenant ≡ false
    → same_name (name_of m) name ≡ false
same_name_other m name other = names_apart (name_of m) name other

-- ---- what is told of another tenant

head : {X : Type 0} (x : X) (xs : List X) → Contains (x ∷ xs) x
head x xs = (0, omega arith, refl)

tail : {X : Type 0} (x : X) (xs : List X) (y : X) → Contains xs y → Contains (x ∷ xs) y
tail x xs y among = Contains-append_right (x ∷ []) xs y among

-- leaves what stands under a name of this one
pub posted_of_others : (moment : ℕ) (tenant : List ℕ) (i k : ℕ) (said : List Said) (name : MessageName)
    (before : Option Posted) → ((m : Message) → Contains (messages_in said) m → m.tenant ≡ tenant)
    → same name.tenant tenant ≡ false → posted_over moment (map (output_of tenant i k) said) name before ≡ before
posted_of_others moment tenant i k [] name before own other = refl
posted_of_others moment tenant i k (Replies connection bytes ∷ more) name before own other =
    posted_of_others moment tenant i k more name before own other
posted_of_others moment tenant i k (Tells sending ∷ more) name before own other =
    posted_of_others moment tenant i k more name before own other
posted_of_others moment tenant i k (Sends m ∷ more) name before own other =
    posted_of_others moment tenant i k more name (posted_by moment (Send m) name before)
    (λ n among. own n (tail m (messages_in more) n among)) other
    ∙ ap (λ b. if b then Some (record { message = m; sent_at = moment }) else before)
    (same_name_other m name (ap (same name.tenant) (own m (head m (messages_in more))) ∙ other))

unposted_by_others : (moment : ℕ) (v : Watch) (x : Output) (name : MessageName) (before : Option Posted)
    → is_tenant name.tenant (owner v x) ≡ false → posted_by moment x name before ≡ before
unfolding owner
unposted_by_others moment v (Reply connection bytes) name before other = refl
unposted_by_others moment v (Notice attempt tries url bytes) name before other = refl
unposted_by_others moment v (Send m) name before other =
    ap (λ b. if b then Some (record { message = m; sent_at = moment }) else before) (same_name_other m name other)

-- under a name of a tenant stands what its own part of all that is put out leaves there
pub posted_of_own : (moment : ℕ) (v : Watch) (outputs : List Output) (name : MessageName) (before : Option Posted)
    → posted_over moment outputs name before ≡ posted_over moment (outputs_of name.tenant v outputs) name before
posted_of_own moment v [] name before = refl
posted_of_own moment v (x ∷ xs) name before =
    by_owner (is_tenant name.tenant (owner v x)) refl (λ o. posted_of_own moment v xs name o)
  where
    own : List Output
    own = outputs_of name.tenant v xs

    by_owner : (b : Bool) → is_tenant name.tenant (owner v x) ≡ b
        → ((o : Option Posted) → posted_over moment xs name o ≡ posted_over moment own name o)
        → posted_over moment xs name (posted_by moment x name before)
        ≡ posted_over moment (cond b (x ∷ own) own) name before
    by_owner true is later = later (posted_by moment x name before)
    by_owner false other later =
        ap (posted_over moment xs name) (unposted_by_others moment v x name before other) ∙ later before

-- ---- what is told of the tenant itself

module _ (moment clock : ℕ) (tenant : List ℕ) (from incarnation to count : ℕ)
    (early : nat_le (moment_after moment message_life) clock ≡ false) where
  abbrev its : Sent → Bool
  its s = is_named from incarnation to count s

  abbrev name : MessageName
  name = named tenant from incarnation to count

  -- a message whose name none had before
  posted_one : (m : Message) (sent : List Sent) → m.tenant ≡ tenant → has_name_of m sent ≡ false
      → posted_by moment (Send m) name (unlost_sent clock (find its sent))
      ≡ unlost_sent clock (find its (sent ++ as_new moment m ∷ []))
  posted_one m sent own new =
      ap (λ b. if b then Some (record { message = m; sent_at = moment }) else unlost_sent clock (find its sent))
      (same_name_named tenant from incarnation to count (as_new moment m) own)
      ∙ by_name (its (as_new moment m)) refl
    where
      unnamed : its (as_new moment m) ≡ true → find its sent ≡ None
      unnamed is =
          let h = parts_of from incarnation to count (as_new moment m) is in
          none_found its sent
          (sym (λ d. list_any (is_named (h.from d) (h.incarnation d) (h.to d) (h.count d)) sent) ∙ new)

      by_name : (b : Bool) → its (as_new moment m) ≡ b
          → (if b then Some (record { message = m; sent_at = moment }) else unlost_sent clock (find its sent))
          ≡ unlost_sent clock (find its (sent ++ as_new moment m ∷ []))
      by_name true is = sym (ap (unlost_sent clock) (find-append its sent (as_new moment m ∷ [])
          ∙ ap (λ o. option_or o (find its (as_new moment m ∷ []))) (unnamed is)
          ∙ ap (λ b. cond b (Some (as_new moment m)) None) is)
          ∙ ap (λ b. if b then None else Some (record { message = m; sent_at = moment })) early)
      by_name false is = sym (ap (unlost_sent clock) (found_before from incarnation to count sent (as_new moment m ∷ [])
          (or_from (its (as_new moment m)) false is refl)))

  -- what stands under a name of the tenant is what its private cluster sent
  pub posted_alike : (i k : ℕ) (said : List Said) (sent : List Sent)
      → ((m : Message) → Contains (messages_in said) m → m.tenant ≡ tenant)
      → ((m : Message) → Contains (messages_in said) m → has_name_of m sent ≡ false)
      → AreNamedOnce (sent_at moment said)
      → posted_over moment (map (output_of tenant i k) said) (named tenant from incarnation to count)
      (unlost_sent clock (find (is_named from incarnation to count) sent))
      ≡ unlost_sent clock (find (is_named from incarnation to count) (sent ++ sent_at moment said))
  posted_alike i k [] sent own new once =
      ap (λ ss. unlost_sent clock (find its ss)) (sym (append-nil sent))
  posted_alike i k (Replies connection bytes ∷ more) sent own new once = posted_alike i k more sent own new once
  posted_alike i k (Tells sending ∷ more) sent own new once = posted_alike i k more sent own new once
  posted_alike i k (Sends m ∷ more) sent own new once =
      ap (posted_over moment (map (output_of tenant i k) more) name)
      (posted_one m sent (own m (head m (messages_in more))) (new m (head m (messages_in more))))
      ∙ posted_alike i k more (sent ++ as_new moment m ∷ [])
      (λ n among. own n (tail m (messages_in more) n among)) still_new once.1
      ∙ ap (λ ss. unlost_sent clock (find its ss)) (append_assoc sent (as_new moment m ∷ []) (sent_at moment more))
    where
      still_new : (n : Message) → Contains (messages_in more) n → has_name_of n (sent ++ as_new moment m ∷ []) ≡ false
      still_new n among =
          list_any-append (is_named n.from n.incarnation n.to n.count) sent (as_new moment m ∷ [])
          ∙ or_from (has_name_of n sent) (has_name_of n (as_new moment m ∷ []))
          (new n (tail m (messages_in more) n among))
          (none_before (as_new moment m ∷ []) (sent_at moment more) (as_new moment n) once
          (contains-map (as_new moment) (messages_in more) n among))

-- what is sent at a moment isn't lost then
pub just_sent : (clock moment : ℕ) → clock ≤ moment → clock < greatest_moment
    → nat_le (moment_after moment message_life) clock ≡ false
just_sent clock moment le before = false_from_ne_true (nat_le (moment_after moment message_life) clock) (λ e.
    let late : min (moment + message_life) greatest_moment ≤ clock = leb-true _ clock e in
    omega (arith, late, le, before))

-- ---- what is lost

-- at a tick
pub lost_alike : (clock moment : ℕ) (o : Option Sent) → clock ≤ moment
    → unlost moment (unlost_sent clock o) ≡ unlost_sent moment o
lost_alike clock moment None le = refl
lost_alike clock moment (Some s) le = by_lost (is_lost clock s) refl
  where
    its : Posted
    its = record { message = s.message; sent_at = s.moment }

    late : (given_up : Bool) → (given_up || nat_le (moment_after s.moment message_life) clock) ≡ false
        → unlost moment (Some its)
        ≡ (if given_up || nat_le (moment_after s.moment message_life) moment then None else Some its)
    late true never = absurd (false≢true (sym never))
    late false kept = refl

    by_lost : (b : Bool) → is_lost clock s ≡ b
        → unlost moment (if b then None else Some its) ≡ unlost_sent moment (Some s)
    by_lost true lost = sym (ap (λ b. if b then None else Some its) (lost_later clock moment s le lost))
    by_lost false kept = late s.given_up kept

-- a message that the transport gave up
module _ (clock from incarnation to count : ℕ) where
  pub none_given_up : (sent : List Sent)
      → unlost_sent clock (find (is_named from incarnation to count) (with_given_up from incarnation to count sent))
      ≡ None
  none_given_up [] = refl
  none_given_up (x ∷ xs) = by_name (is_named from incarnation to count x) refl (none_given_up xs)
    where
      later : Option Sent
      later = find (is_named from incarnation to count) (with_given_up from incarnation to count xs)

      by_name : (b : Bool) → is_named from incarnation to count x ≡ b → unlost_sent clock later ≡ None
          → unlost_sent clock (cond (is_named from incarnation to count (if b then record x { given_up = true } else x))
          (Some (if b then record x { given_up = true } else x)) later) ≡ None
      by_name true e more = ap (λ b. unlost_sent clock (cond b (Some (record x { given_up = true })) later)) e
      by_name false e more = ap (λ b. unlost_sent clock (cond b (Some x) later)) e ∙ more

  -- .. is lost alone
  pub given_up_alike : (tenant : List ℕ) (sender era receiver number : ℕ) (sent : List Sent)
      → unlost_sent clock (find (is_named sender era receiver number) (with_given_up from incarnation to count sent))
      ≡ (if same_name (named tenant from incarnation to count) (named tenant sender era receiver number)
      then None else unlost_sent clock (find (is_named sender era receiver number) sent))
  given_up_alike tenant sender era receiver number sent =
      by_name (same_name (named tenant from incarnation to count) (named tenant sender era receiver number)) refl
    where
      after : List Sent
      after = with_given_up from incarnation to count sent

      test : Bool
      test = from == sender && (incarnation == era && (to == receiver && count == number))

      -- the tests of the four numbers are those of the names
      apart : same_name (named tenant from incarnation to count) (named tenant sender era receiver number) ≡ false
          → test ≡ false
      apart other = false_from_ne_true test (λ e. false≢true (sym other ∙ equal e))
        where
          equal : test ≡ true
              → same_name (named tenant from incarnation to count) (named tenant sender era receiver number) ≡ true
          equal e =
              let a = and_parts (from == sender) (incarnation == era && (to == receiver && count == number)) e in
              let b = and_parts (incarnation == era) (to == receiver && count == number) a.1 in
              let c = and_parts (to == receiver) (count == number) b.1 in
              let same : named tenant from incarnation to count ≡ named tenant sender era receiver number =
              λ d. named tenant (eqb-true from sender a.0 d) (eqb-true incarnation era b.0 d)
              (eqb-true to receiver c.0 d) (eqb-true count number c.1 d) in
              ap (same_name (named tenant from incarnation to count)) (sym same)
              ∙ name_itself (named tenant from incarnation to count)

      by_name : (b : Bool)
          → same_name (named tenant from incarnation to count) (named tenant sender era receiver number) ≡ b
          → unlost_sent clock (find (is_named sender era receiver number) after)
          ≡ (if b then None else unlost_sent clock (find (is_named sender era receiver number) sent))
      by_name true e =
          let same = one_name (named tenant from incarnation to count) (named tenant sender era receiver number) e in
          ap (λ (n : MessageName). unlost_sent clock (find (is_named n.from n.incarnation n.to n.count) after))
          (sym same)
          ∙ none_given_up sent
      by_name false e =
          ap (unlost_sent clock)
          (found_besides from incarnation to count sender era receiver number sent (apart e))

-- ---- all messages of a tenant

-- under each name that a message of the tenant may have, what its private cluster has there
abbrev pub AreAlike : (tenant : List ℕ) → (clock : ℕ) → Post → List Sent → Type 0
AreAlike tenant clock post sent =
    (from incarnation to count : ℕ) → posted_at (named tenant from incarnation to count) post
    ≡ unlost_sent clock (find (is_named from incarnation to count) sent)

module _ (tenant : List ℕ) (clock : ℕ) (old new : Post) (sent : List Sent)
    (alike : AreAlike tenant clock old sent) where
  -- an instance reacted for the tenant, and perhaps for others
  pub alike_told : (moment : ℕ) (v : Watch) (i k : ℕ) (outputs : List Output) (said : List Said)
      → nat_le (moment_after moment message_life) clock ≡ false → Posts moment outputs old new
      → outputs_of tenant v outputs ≡ map (output_of tenant i k) said
      → ((m : Message) → Contains (messages_in said) m → m.tenant ≡ tenant)
      → ((m : Message) → Contains (messages_in said) m → has_name_of m sent ≡ false)
      → AreNamedOnce (sent_at moment said) → AreAlike tenant clock new (sent ++ sent_at moment said)
  alike_told moment v i k outputs said early posts its own unnamed once from incarnation to count =
      let name = named tenant from incarnation to count in
      posts name ∙ posted_of_own moment v outputs name (posted_at name old)
      ∙ ap (λ os. posted_over moment os name (posted_at name old)) its
      ∙ ap (posted_over moment (map (output_of tenant i k) said) name) (alike from incarnation to count)
      ∙ posted_alike moment clock tenant from incarnation to count early i k said sent own unnamed once

  -- .. for others alone
  pub alike_beside : (moment : ℕ) (v : Watch) (outputs : List Output) → Posts moment outputs old new
      → outputs_of tenant v outputs ≡ [] → AreAlike tenant clock new sent
  alike_beside moment v outputs posts none from incarnation to count =
      let name = named tenant from incarnation to count in
      posts name ∙ posted_of_own moment v outputs name (posted_at name old)
      ∙ ap (λ os. posted_over moment os name (posted_at name old)) none ∙ alike from incarnation to count

  -- it was ticked
  pub alike_ticked : (moment : ℕ) → clock ≤ moment
      → ((name : MessageName) → posted_at name new ≡ unlost moment (posted_at name old))
      → AreAlike tenant moment new sent
  alike_ticked moment le lost from incarnation to count =
      lost (named tenant from incarnation to count) ∙ ap (unlost moment) (alike from incarnation to count)
      ∙ lost_alike clock moment (find (is_named from incarnation to count) sent) le

  -- a message of the tenant was given up
  pub alike_given_up : (from incarnation to count : ℕ) → Loses (named tenant from incarnation to count) old new
      → AreAlike tenant clock new (with_given_up from incarnation to count sent)
  alike_given_up from incarnation to count lost sender era receiver number =
      let gone = same_name (named tenant from incarnation to count) (named tenant sender era receiver number) in
      lost (named tenant sender era receiver number)
      ∙ ap (λ o. if gone then None else o) (alike sender era receiver number)
      ∙ sym (given_up_alike clock from incarnation to count tenant sender era receiver number sent)

  -- .. of another tenant
  pub alike_without : (name : MessageName) → same tenant name.tenant ≡ false → Loses name old new
      → AreAlike tenant clock new sent
  alike_without name other lost from incarnation to count =
      let mine = named tenant from incarnation to count in
      lost mine ∙ ap (λ b. if b then None else posted_at mine old) (names_apart name mine other)
      ∙ alike from incarnation to count

-- ---- what is lost of one sender

module _ (sender : ℕ) where
  pub not_of_another : (xs : List Output) (name : MessageName)
      → ((m : Message) → Contains xs (Send m) → m.from ≡ sender) → (name.from ≡ sender → ⊥)
      → list_any (is_of_name name) xs ≡ false
  not_of_another [] name from other = refl
  not_of_another (x ∷ xs) name from other =
      or_from (is_of_name name x) (list_any (is_of_name name) xs) (by_kind x (λ m is. from m (here m is)))
      (not_of_another xs name (λ m among. from m (Contains-append_right (x ∷ []) xs (Send m) among)) other)
    where
      here : (m : Message) → x ≡ Send m → Contains (x ∷ xs) (Send m)
      here m is = (0, omega arith, is)

      by_kind : (y : Output) → ((m : Message) → y ≡ Send m → m.from ≡ sender) → is_of_name name y ≡ false
      by_kind (Reply connection bytes) its = refl
      by_kind (Notice attempt tries url bytes) its = refl
      by_kind (Send message) its = false_from_ne_true (same_name (name_of message) name) (λ e.
          other (sym (ap (λ (n : MessageName). n.from) (one_name (name_of message) name e)) ∙ its message refl))

-- a message among what was said, as outputs, is among the messages that were
pub sent_among : (tenant : List ℕ) (i k : ℕ) (said : List Said) (m : Message)
    → Contains (map (output_of tenant i k) said) (Send m) → Contains (messages_in said) m
sent_among tenant i k [] m among = absurd (omega (arith, among.1))
sent_among tenant i k (x ∷ more) m among =
    elim (contained (output_of tenant i k x) (map (output_of tenant i k) more) (Send m) among) [
      | inl here ↦ by_kind x here
      | inr later ↦ behind x (sent_among tenant i k more m later)
    ]
  where
    by_kind : (y : Said) → output_of tenant i k y ≡ Send m → Contains (messages_in (y ∷ more)) m
    by_kind (Replies connection bytes) is = absurd (cc)
    by_kind (Tells sending) is = absurd (cc)
    by_kind (Sends n) is =
        let same : n ≡ m = cc in
        subst (λ l. Contains (n ∷ messages_in more) l) same (head n (messages_in more))

    behind : (y : Said) → Contains (messages_in more) m → Contains (messages_in (y ∷ more)) m
    behind (Replies connection bytes) later = later
    behind (Tells sending) later = later
    behind (Sends n) later = tail n (messages_in more) m later
