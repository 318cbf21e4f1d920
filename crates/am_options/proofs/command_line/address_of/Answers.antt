use Rattle.std.proofs.Common.{◌≡◌, ◌∙◌, ℕ, List, [], ◌∷◌, Option, None, Some, Result, Ok, Err, append-nil, arith, length, lit≤, ne_eqb, refl, subst, sym}
use Rattle.std.specs.Net.Grammar.{IsIpv4Text, Parses}
use Rattle.std.specs.Net.Reader.{read_ipv4}
use Rattle.std.specs.Result.{result_ok}
use Rattle.std.specs.declared.net.ipv4_addr.Ipv4Addr.{Ipv4Addr}
use Rattle.std.proofs.NetLemmas.Ipv4.{read_ipv4_complete, read_ipv4_sound}
use Rattle.clap.specs.Words.{Text}
use Rattle.am_options.specs.CommandLine.{Spells, address_of}
use Rattle.am_options.proofs.command_line.address_of.Goals as goal

abbrev SpellsNone : Text → Type 0
SpellsNone text = (address : Ipv4Addr) → ¬ (IsIpv4Text text address)

-- where a text spells no address, none is read
none_read : (text : Text) (read : Option (List ℕ × List ℕ)) → read_ipv4 text ≡ read → SpellsNone text →
    None ≡ address_of text
none_read text None e none = rw e refl
none_read text (Some (octets, [])) e none =
    let (front, split, dotted) = read_ipv4_sound text octets [] e in
    let address : Ipv4Addr = record { octets = octets } in
    absurd (none address (subst (λ t. IsIpv4Text t address) (sym (split ∙ append-nil front)) dotted))
none_read text (Some (octets, byte ∷ rest)) e none = rw (e, ne_eqb (length (byte ∷ rest)) 0 (omega arith)) refl

-- what is parsed of a text is the address that it spells
parsed : {E : Type 0} (text : Text) (r : Result Ipv4Addr E) → Parses IsIpv4Text text r → result_ok r ≡ address_of text
parsed text (Ok a) dotted = rw (rw append-nil at (read_ipv4_complete text a.octets [] dotted (lit≤ tt))) refl
parsed text (Err e) none = none_read text (read_ipv4 text) refl none

spelled : {E : Type 0} (text : Text) (r : Result Ipv4Addr E) → Parses IsIpv4Text text r → Spells text (result_ok r)
spelled text (Ok a) dotted = dotted
spelled text (Err e) none = none

pub returns-clause-value : goal.returns-clause-value
returns-clause-value c = c.ok.ensures.value ∙ parsed c.args.text.now c.parse.result c.parse.ensures.value

pub returns-clause-spelled : goal.returns-clause-spelled
returns-clause-spelled c =
    let is_spelled = spelled c.args.text.now c.parse.result c.parse.ensures.value in
    subst (Spells c.args.text.now) (sym c.ok.ensures.value) is_spelled
