-- The JSON that is written of texts and labels, and the tokens of a value.
use Rattle.std.specs.Prelude.{ℕ, List, [], ◌∷◌, map}
use Rattle.json.specs.Token.{Token, key}
use Rattle.json.specs.Tree as tree
use Rattle.serde_json.specs.Data.{Data, string, array, object, Items, Members, no_members, put}
use Rattle.serde_json.specs.View.{items_of}
use Rattle.serde_json.specs.Written.{outline, items_outline, members_outline}
use Rattle.am_labels.specs.declared.Label.{Label}

-- members with those of labels: each name in its place, with its value as a text
abbrev pub labels_onto : Members → List Label → Members
labels_onto members [] = members
labels_onto members (label ∷ labels) = labels_onto (put label.name (string label.value) members) labels

-- an object of labels or annotations
abbrev pub labels_data : List Label → Data
labels_data labels = object (labels_onto no_members labels)

-- a list of texts
abbrev pub texts_data : List (List ℕ) → Data
texts_data texts = array (items_of (map string texts))

-- the tokens of a value
abbrev pub data_tokens : Data → List Token
data_tokens d = tree.json_tokens (outline d)

-- the tokens of a member
abbrev pub member_tokens : List ℕ → Data → List Token
member_tokens name d = key name ∷ data_tokens d

-- the tokens of values in an array, with its end
abbrev pub items_tokens : Items → List Token
items_tokens ds = tree.items_tokens (items_outline ds)

-- the tokens of members in an object, with its end
abbrev pub members_tokens : Members → List Token
members_tokens ms = tree.members_tokens (members_outline ms)
