use Rattle.std.proofs.Common.{◌≡◌, ◌∙◌, ap, sym, subst, refl, inl, inr, Bool, List, [], Option, Some, None, codes, map, option_map, true, false, if◌then◌else◌}
use Rattle.std.specs.Str.{bytes_eq}
use Rattle.std.proofs.lemmas.Result.{IfOk-weaker}
use Rattle.clap.specs.Words.{App, HasKind, IsAmong, Row, Text, app_of, fault_of, is_simple, is_simple_and_free, kind_of, subcommand_of}
use Rattle.clap.specs.Simple.{subcommand_rows_of}
use Rattle.clap.specs.declared.error.Error.{Error}
use Rattle.clap.specs.declared.error.kind.ErrorKind.{ErrorKind}
use Rattle.clap.proofs.OnLiterals.{clap_on_literals}
use Rattle.am_options.specs.CommandLine.{Asks, Tells, asked_of, command_line, file_in, kinds, running_in, serving_in, world_asked}
use Rattle.am_options.specs.declared.command_line.CommandLine.{CommandLine}
use Rattle.am_options.specs.declared.command_line.CommandLine.TheVariants.{Run, Serve, Check, Help, Bad}
use Rattle.am_options.specs.declared.command_line.Running.{Running}
use Rattle.am_options.specs.declared.command_line.Serving.{Serving}
use Rattle.am_options.proofs.command_line.options.Goals as goal

-- clap says which words the command line's form takes, and what it finds in them
is_known : is_simple_and_free command_line ≡ true
unfolding clap_on_literals
is_known = refl

is_read : is_simple command_line ≡ true
unfolding clap_on_literals
is_read = refl

-- an error that tells this came from a fault of the words
asks_told : (words : List Text) (e : Error) (line : CommandLine) → HasKind (kinds words) e → Tells (kind_of e) line → Asks words line
asks_told words e (Run running) has tells = absurd tells
asks_told words e (Serve serving) has tells = absurd tells
asks_told words e (Check file) has tells = absurd tells
asks_told words e (Help text) has tells = elim tells [
  | inl help ↦ elim has [
    | inl memory ↦ cc
    | inr among ↦ inl (subst (λ (k : ErrorKind). IsAmong k (kinds words)) help among)
  ]
  | inr version ↦ elim has [
    | inl memory ↦ cc
    | inr among ↦ inr (subst (λ (k : ErrorKind). IsAmong k (kinds words)) version among)
  ]
]
asks_told words e (Bad text) has tells = elim has [
  | inl memory ↦ absurd (tells.2 memory)
  | inr among ↦ inl (kind_of e, among, tells)
]

-- a subcommand asks for no text
abbrev IsWork : CommandLine → Type 0
IsWork (Run running) = Unit {0}
IsWork (Serve serving) = Unit {0}
IsWork (Check file) = Unit {0}
IsWork (Help text) = ⊥
IsWork (Bad text) = ⊥

told_by_world : (b : Bool) (serving : Option Serving) (running : Option Running) (line : CommandLine) →
    (if b then option_map Serve serving else option_map Run running) ≡ Some line → IsWork line
told_by_world b serving running (Run _) e = tt
told_by_world b serving running (Serve _) e = tt
told_by_world b serving running (Check _) e = tt
told_by_world true None running (Help text) e = cc
told_by_world true (Some serving) running (Help text) e = cc
told_by_world false serving None (Help text) e = cc
told_by_world false serving (Some running) (Help text) e = cc
told_by_world true None running (Bad text) e = cc
told_by_world true (Some serving) running (Bad text) e = cc
told_by_world false serving None (Bad text) e = cc
told_by_world false serving (Some running) (Bad text) e = cc

told_by : (b : Bool) (file : Option Text) (name : Text) (rows : List Row) (line : CommandLine) →
    (if b then option_map Check file else world_asked name rows) ≡ Some line → IsWork line
told_by true None name rows line e = absurd cc
told_by true (Some file) name rows (Run _) e = tt
told_by true (Some file) name rows (Serve _) e = tt
told_by true (Some file) name rows (Check _) e = tt
told_by true (Some file) name rows (Help text) e = cc
told_by true (Some file) name rows (Bad text) e = cc
told_by false file name rows line e = told_by_world (bytes_eq name (codes "serve")) (serving_in rows) (running_in rows) line e

is_work : (entered : Option (Text × List Row)) (line : CommandLine) → asked_of entered ≡ Some line → IsWork line
is_work None line e = absurd cc
is_work (Some sub) line e = told_by (bytes_eq sub.0 (codes "check")) (file_in sub.1) sub.0 sub.1 line e

asks_work : (words : List Text) (line : CommandLine) → kinds words ≡ [] → asked_of (subcommand_of command_line words) ≡ Some line →
    IsWork line → Asks words line
asks_work words (Run running) none asked work = (none, asked)
asks_work words (Serve serving) none asked work = (none, asked)
asks_work words (Check file) none asked work = (none, asked)
asks_work words (Help text) none asked work = absurd work
asks_work words (Bad text) none asked work = absurd work

asks_asked : (words : List Text) (line : CommandLine) → kinds words ≡ [] → asked_of (subcommand_of command_line words) ≡ Some line → Asks words line
asks_asked words line none asked = asks_work words line none asked (is_work (subcommand_of command_line words) line asked)

pub returns-in-Ok-2 : goal.returns-in-Ok-2
returns-in-Ok-2 g c =
    let words : List Text = map g.S.AsStr.text c.args.words.now in
    let form_is : app_of c.in_ok-form.field-0 ≡ command_line = c.in_ok-form.ensures in
    let no_fault : kinds words ≡ [] = ap (λ (a : App). fault_of a words) (sym form_is) ∙ c.in-Ok.ensures.kinds (ap is_simple_and_free form_is ∙ is_known) in
    let entered : subcommand_rows_of c.in-Ok.matches ≡ subcommand_of command_line words =
    (c.in-Ok.ensures.matches (ap is_simple form_is ∙ is_read)).1 ∙ ap (λ (a : App). subcommand_of a words) form_is in
    let found : asked_of (subcommand_rows_of c.in-Ok.matches) ≡ Some c.in-Ok-2.line = rw c.in-Ok-2.is at c.in_ok-line-in-Ok.ensures in
    asks_asked words c.in-Ok-2.line no_fault (ap asked_of (sym entered) ∙ found)

pub returns-in-Ok : goal.returns-in-Ok
returns-in-Ok g c =
    let words : List Text = map g.S.AsStr.text c.args.words.now in
    let form_is : app_of c.in_ok-form.field-0 ≡ command_line = c.in_ok-form.ensures in
    let no_fault : kinds words ≡ [] = ap (λ (a : App). fault_of a words) (sym form_is) ∙ c.in-Ok.ensures.kinds (ap is_simple_and_free form_is ∙ is_known) in
    let entered : subcommand_rows_of c.in-Ok.matches ≡ subcommand_of command_line words =
    (c.in-Ok.ensures.matches (ap is_simple form_is ∙ is_read)).1 ∙ ap (λ (a : App). subcommand_of a words) form_is in
    let found : asked_of (subcommand_rows_of c.in-Ok.matches) ≡ None = rw c.in-Err-2.is at c.in_ok-line-in-Ok.ensures in
    inr (no_fault, ap asked_of (sym entered) ∙ found)

pub returns : goal.returns
returns g c =
    let words : List Text = map g.S.AsStr.text c.args.words.now in
    let form_is : app_of c.in_ok-form.field-0 ≡ command_line = c.in_ok-form.ensures in
    let has : HasKind (kinds words) c.in-Err.error =
    subst (λ (a : App). HasKind (fault_of a words) c.in-Err.error) form_is (c.in-Err.ensures.kinds (ap is_simple_and_free form_is ∙ is_known)) in
    IfOk-weaker c.told.result _ _ (λ line tells. asks_told words c.in-Err.error line has tells) c.told.ensures
