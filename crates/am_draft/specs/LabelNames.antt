-- The names of labels that a draft lists.
use Rattle.std.specs.Prelude.{ℕ, List, All, IsTrue}
use Rattle.std.specs.Option.{ForSome}
use Rattle.am_labels.specs.Labels.{is_label_name}
use Rattle.am_draft.specs.declared.draft.Draft.{Draft}
use Rattle.am_draft.specs.declared.route.Grouping.{Grouping}
use Rattle.am_draft.specs.declared.route.Grouping.TheVariants as grouping
use Rattle.am_draft.specs.declared.route.RouteDraft.{RouteDraft}
use Rattle.am_draft.specs.declared.rule.RuleDraft.{RuleDraft}
use Rattle.am_text.specs.declared.tree.Node.{Node}

-- each of them is a label name
abbrev pub AreLabelNames : List (List ℕ) → Type 0
AreLabelNames names = All (λ (name : List ℕ). IsTrue (is_label_name name)) names

-- the names to group by, where it isn't by all labels, are label names
abbrev pub HasLabelNames : Grouping → Type 0
HasLabelNames grouping.All = Unit {0}
HasLabelNames (grouping.Names names) = AreLabelNames names

-- so are those of `group_by` and `equal` in a draft
pub record ListsLabelNames (draft : Draft) : Type 0 where
  pub groupings : All (λ (node : Node RouteDraft). ForSome node.item.grouping HasLabelNames) draft.routes
  pub equal : All (λ (rule : RuleDraft). AreLabelNames rule.equal) draft.rules
