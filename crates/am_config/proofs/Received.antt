-- The receivers of a configuration stand where those of its draft do.
use Rattle.std.proofs.Common.{◌≡◌, ◌≢◌, ℕ, suc, ◌≤◌, List, [], ◌∷◌, All, AllPairs, false, true, Ok, length, map, sym, ap, ◌∙◌, subst, arith, true≢false}
use Rattle.std.specs.List.{list_all}
use Rattle.std.specs.Str.{bytes_eq}
use Rattle.std.specs.Cmp.Lexicographic.{bytes_decides}
use Rattle.std.proofs.lemmas.Bool.{and_parts, leb-true, or_parts}
use Rattle.std.proofs.lemmas.List.Elements.{All-cons, All-nil}
use Rattle.std.proofs.lemmas.List.Kept.{AllPairs-cons}
use Rattle.am_text.proofs.OutcomeLemmas.{both_done}
use Rattle.am_draft.specs.declared.receiver.ReceiverDraft.{ReceiverDraft}
use Rattle.am_draft.specs.declared.receiver.WebhookDraft.{WebhookDraft}
use Rattle.am_config.specs.declared.parts.Receiver.{Receiver}
use Rattle.am_config.specs.declared.parts.Webhook.{Webhook}
use Rattle.am_config.specs.Checks.{has_few_webhooks, is_listed, is_repeated}
use Rattle.am_config.specs.Completing.{receiver_of, receivers_of, webhook_of, webhooks_of}

webhooks_kept : (drafts : List WebhookDraft) (webhooks : List Webhook) → webhooks_of drafts ≡ Ok webhooks → length webhooks ≡ length drafts
unfolding webhooks_of
webhooks_kept [] webhooks e = let same : [] ≡ webhooks = cc in ap length (sym same)
webhooks_kept (draft ∷ drafts) webhooks e =
    let first = both_done (webhook_of draft) _ webhooks e in
    let rest = both_done (webhooks_of drafts) _ webhooks first.1.1 in
    let same : first.0 ∷ rest.0 ≡ webhooks = cc in
    ap length (sym same) ∙ ap suc (webhooks_kept drafts rest.0 rest.1.0)

receiver_kept : (draft : ReceiverDraft) (receiver : Receiver) → receiver_of draft ≡ Ok receiver →
    (receiver.name ≡ draft.name) × (length receiver.webhooks ≡ length draft.webhooks)
unfolding receiver_of
receiver_kept draft receiver e =
    let read = both_done (webhooks_of draft.webhooks) _ receiver e in
    let made : Receiver = record { name = draft.name; webhooks = read.0 } in
    let same : made ≡ receiver = cc in (
      ap (λ (r : Receiver). r.name) (sym same),
      ap (λ (r : Receiver). length r.webhooks) (sym same) ∙ webhooks_kept draft.webhooks read.0 read.1.0,
    )

-- the first receiver, and those behind it
record Parts (draft : ReceiverDraft) (drafts : List ReceiverDraft) (receivers : List Receiver) : Type 0 where
  first : Receiver
  rest : List Receiver
  is : first ∷ rest ≡ receivers
  first_is : receiver_of draft ≡ Ok first
  rest_is : receivers_of drafts ≡ Ok rest

parts_of : (draft : ReceiverDraft) (drafts : List ReceiverDraft) (receivers : List Receiver) →
    receivers_of (draft ∷ drafts) ≡ Ok receivers → Parts draft drafts receivers
unfolding receivers_of
parts_of draft drafts receivers e =
    let head = both_done (receiver_of draft) _ receivers e in
    let tail = both_done (receivers_of drafts) _ receivers head.1.1 in
    record { first = head.0; rest = tail.0; is = cc; first_is = head.1.0; rest_is = tail.1.0 }

none_of : (receivers : List Receiver) → receivers_of [] ≡ Ok receivers → [] ≡ receivers
unfolding receivers_of
none_of receivers e = cc

pub receivers_kept : (drafts : List ReceiverDraft) (receivers : List Receiver) → receivers_of drafts ≡ Ok receivers →
    length receivers ≡ length drafts
receivers_kept [] receivers e = ap length (sym (none_of receivers e))
receivers_kept (draft ∷ drafts) receivers e =
    let parts = parts_of draft drafts receivers e in
    ap length (sym parts.is) ∙ ap suc (receivers_kept drafts parts.rest parts.rest_is)

-- the receivers stand under their names
pub names_kept : (drafts : List ReceiverDraft) (receivers : List Receiver) → receivers_of drafts ≡ Ok receivers →
    map (λ (receiver : Receiver). receiver.name) receivers ≡ map (λ (receiver : ReceiverDraft). receiver.name) drafts
names_kept [] receivers e = ap (map (λ (receiver : Receiver). receiver.name)) (sym (none_of receivers e))
names_kept (draft ∷ drafts) receivers e =
    let parts = parts_of draft drafts receivers e in
    let named = (receiver_kept draft parts.first parts.first_is).0 in
    ap (map (λ (receiver : Receiver). receiver.name)) (sym parts.is)
    ∙ ap (λ name. name ∷ map (λ (receiver : Receiver). receiver.name) parts.rest) named
    ∙ ap (λ names. draft.name ∷ names) (names_kept drafts parts.rest parts.rest_is)

pub webhooks_fit : (drafts : List ReceiverDraft) (receivers : List Receiver) → receivers_of drafts ≡ Ok receivers →
    list_all has_few_webhooks drafts ≡ true → All (λ (receiver : Receiver). length receiver.webhooks ≤ 16) receivers
webhooks_fit [] receivers e fit =
    subst (All (λ (receiver : Receiver). length receiver.webhooks ≤ 16)) (none_of receivers e)
    (All-nil (λ (receiver : Receiver). length receiver.webhooks ≤ 16))
webhooks_fit (draft ∷ drafts) receivers e fit =
    let parts = parts_of draft drafts receivers e in
    let tests = and_parts (has_few_webhooks draft) (list_all has_few_webhooks drafts) fit in
    let few : length draft.webhooks ≤ 16 = leb-true (length draft.webhooks) 16 tests.0 in
    let kept = (receiver_kept draft parts.first parts.first_is).1 in
    subst (All (λ (receiver : Receiver). length receiver.webhooks ≤ 16)) parts.is
    (All-cons (λ (receiver : Receiver). length receiver.webhooks ≤ 16) parts.first parts.rest (omega (arith, few, kept))
    (webhooks_fit drafts parts.rest parts.rest_is tests.1))

-- no receiver has the name
unnamed : (drafts : List ReceiverDraft) (receivers : List Receiver) (name : List ℕ) → receivers_of drafts ≡ Ok receivers →
    is_listed drafts name ≡ false → All (λ (receiver : Receiver). name ≢ receiver.name) receivers
unnamed [] receivers name e absent =
    subst (All (λ (receiver : Receiver). name ≢ receiver.name)) (none_of receivers e)
    (All-nil (λ (receiver : Receiver). name ≢ receiver.name))
unnamed (draft ∷ drafts) receivers name e absent =
    let parts = parts_of draft drafts receivers e in
    let tests = or_parts (bytes_eq draft.name name) (is_listed drafts name) absent in
    let named = (receiver_kept draft parts.first parts.first_is).0 in
    subst (All (λ (receiver : Receiver). name ≢ receiver.name)) parts.is
    (All-cons (λ (receiver : Receiver). name ≢ receiver.name) parts.first parts.rest
    (λ same. true≢false (sym ((bytes_decides draft.name name).1 (sym named ∙ sym same)) ∙ tests.0))
    (unnamed drafts parts.rest name parts.rest_is tests.1))

abbrev pub AreApart : List Receiver → Type 0
AreApart receivers = AllPairs (λ (first second : Receiver). first.name ≢ second.name) receivers

pub names_fit : (drafts : List ReceiverDraft) (receivers : List Receiver) → receivers_of drafts ≡ Ok receivers → is_repeated drafts ≡ false →
    AreApart receivers
unfolding is_repeated
names_fit [] receivers e apart = subst AreApart (none_of receivers e) (λ i j other low high. absurd (omega arith))
names_fit (draft ∷ drafts) receivers e apart =
    let parts = parts_of draft drafts receivers e in
    let tests = or_parts (is_listed drafts draft.name) (is_repeated drafts) apart in
    let named = (receiver_kept draft parts.first parts.first_is).0 in
    subst AreApart parts.is
    (AllPairs-cons (λ (first second : Receiver). first.name ≢ second.name) parts.first parts.rest
    (rw named (unnamed drafts parts.rest draft.name parts.rest_is tests.0)) (names_fit drafts parts.rest parts.rest_is tests.1))
