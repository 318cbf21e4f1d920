-- Messages that are posted, and that are lost again, by their names.
use Rattle.std.proofs.Common.{◌≡◌, ℕ, Bool, true, false, ◌||◌, List, [], ◌∷◌, ◌++◌, Option, Some, None}
use Rattle.std.proofs.Common.{Result, Ok, Err, OnErr, OnOk, if◌then◌else◌, refl, sym, ap, ◌∙◌}
use Rattle.std.specs.List.{list_any}
use Rattle.std.proofs.lemmas.Bool.{or_parts}
use Rattle.std.proofs.lemmas.List.Folds.{list_any-append}
use Rattle.am_cluster.specs.Events.{Notice, Output, Reply, Send}
use Rattle.am_cluster.specs.Messages.{Message}
use Rattle.am_messages.specs.Names.{name_of, same_name}
use Rattle.am_messages.specs.Posted.{Loses, Sends, posted_at}
use Rattle.am_messages.specs.declared.messages.Posted.{Posted}
use Rattle.am_messages.specs.declared.name.MessageName.{MessageName}
use Rattle.am_messages.proofs.Orders.{one_name}
use Rattle.am_world.specs.Posting.{AreFiled, LosesAll, Post, Posts, SparesOthers}
use Rattle.am_world.specs.Posting.{is_of_name, posted_by, posted_over}
use Rattle.am_world.proofs.Posted.{posts_then}

-- ---- one after the other

-- one more is put out
pub posts_more : (moment : ℕ) (xs : List Output) (x : Output) (old mid new : Post) → Posts moment xs old mid
    → ((name : MessageName) → posted_at name new ≡ posted_by moment x name (posted_at name mid))
    → Posts moment (xs ++ x ∷ []) old new
posts_more moment xs x old mid new first second = posts_then moment xs (x ∷ []) old mid new first second

-- nothing changes
pub posts_same : (moment : ℕ) (xs : List Output) (old mid new : Post) → Posts moment xs old mid
    → ((name : MessageName) → posted_at name new ≡ posted_at name mid) → Posts moment xs old new
posts_same moment xs old mid new posts same name = same name ∙ posts name

-- ---- names that aren't among what is put out

unposted : (moment : ℕ) (x : Output) (name : MessageName) (before : Option Posted) → is_of_name name x ≡ false
    → posted_by moment x name before ≡ before
unposted moment (Reply connection bytes) name before other = refl
unposted moment (Notice attempt tries url bytes) name before other = refl
unposted moment (Send message) name before other =
    ap (λ b. if b then Some (record { message = message; sent_at = moment }) else before) other

pub unposted_all : (moment : ℕ) (xs : List Output) (name : MessageName) (before : Option Posted)
    → list_any (is_of_name name) xs ≡ false → posted_over moment xs name before ≡ before
unposted_all moment [] name before others = refl
unposted_all moment (x ∷ xs) name before others =
    let parts = or_parts (is_of_name name x) (list_any (is_of_name name) xs) others in
    unposted_all moment xs name (posted_by moment x name before) parts.1 ∙ unposted moment x name before parts.0

pub posts_spare : (moment : ℕ) (xs : List Output) (old new : Post) → Posts moment xs old new
    → SparesOthers xs old new
posts_spare moment xs old new posts name others =
    posts name ∙ unposted_all moment xs name (posted_at name old) others

-- .. nor among the first of it
pub first_spared : (xs ys : List Output) (old new : Post) → SparesOthers xs old new → SparesOthers (xs ++ ys) old new
first_spared xs ys old new spares name others =
    let both : (list_any (is_of_name name) xs || list_any (is_of_name name) ys) ≡ false =
    sym (list_any-append (is_of_name name) xs ys) ∙ others in
    let parts = or_parts (list_any (is_of_name name) xs) (list_any (is_of_name name) ys) both in
    spares name parts.0

-- ---- what is lost

-- of one more than before
pub lost_more : (xs : List Output) (x : Output) (old mid new : Post) → LosesAll xs old mid
    → ((name : MessageName) → posted_at name new ≡ (if is_of_name name x then None else posted_at name mid))
    → LosesAll (xs ++ x ∷ []) old new
lost_more xs x old mid new first second name =
    second name ∙ ap (λ o. if is_of_name name x then None else o) (first name)
    ∙ by_both (is_of_name name x) (list_any (is_of_name name) xs) (posted_at name old)
    ∙ sym (ap (λ b. if b then None else posted_at name old) (list_any-append (is_of_name name) xs (x ∷ [])))
  where
    by_both : (b among : Bool) (o : Option Posted) → (if b then None else (if among then None else o))
        ≡ (if (among || (b || false)) then None else o)
    by_both true true o = refl
    by_both true false o = refl
    by_both false true o = refl
    by_both false false o = refl

-- after others were spared
pub lost_after : (xs : List Output) (old mid new : Post) → SparesOthers xs old mid → LosesAll xs mid new
    → LosesAll xs old new
lost_after xs old mid new spares loses name =
    loses name ∙ by_among (list_any (is_of_name name) xs) (spares name)
  where
    by_among : (b : Bool) → (b ≡ false → posted_at name mid ≡ posted_at name old)
        → (if b then None else posted_at name mid) ≡ (if b then None else posted_at name old)
    by_among true spared = refl
    by_among false spared = spared refl

-- ---- each message stays under its own name

filed_same : (old new : Post) → ((name : MessageName) → posted_at name new ≡ posted_at name old)
    → AreFiled old → AreFiled new
filed_same old new same filed name posted at = filed name posted (sym (same name) ∙ at)

filed_sent : (m : Message) (moment : ℕ) (old new : Post) → Sends m moment old new → AreFiled old → AreFiled new
filed_sent m moment old new sends filed name posted at =
    by_name (same_name (name_of m) name) refl (sym (sends name) ∙ at)
  where
    by_name : (b : Bool) → same_name (name_of m) name ≡ b
        → (if b then Some (record { message = m; sent_at = moment }) else posted_at name old) ≡ Some posted
        → name_of posted.message ≡ name
    by_name true is there =
        let same : record { message = m; sent_at = moment } ≡ posted = cc in
        sym (ap (λ (p : Posted). name_of p.message) same) ∙ one_name (name_of m) name is
    by_name false is there = filed name posted there

-- .. whatever came of the sending
pub filed_either : {T E : Type 0} (r : Result T E) (m : Message) (moment : ℕ) (old new : Post)
    → OnOk r (Sends m moment old new) → OnErr r ((name : MessageName) → posted_at name new ≡ posted_at name old)
    → AreFiled old → AreFiled new
filed_either (Ok x) m moment old new sends same = filed_sent m moment old new sends
filed_either (Err e) m moment old new sends same = filed_same old new same

pub filed_lost : (lost : MessageName) (old new : Post) → Loses lost old new → AreFiled old → AreFiled new
filed_lost lost old new loses filed name posted at =
    by_name (same_name lost name) (sym (loses name) ∙ at)
  where
    by_name : (b : Bool) → (if b then None else posted_at name old) ≡ Some posted → name_of posted.message ≡ name
    by_name true there = absurd (cc)
    by_name false there = filed name posted there
