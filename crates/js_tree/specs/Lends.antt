-- What a list and a box end as, where a `&mut` to what they hold is returned.
use Rattle.std.specs.Prelude.{ℕ, List, slice_set}
use Rattle.std.specs.Borrow.{Lends, Fml, RattleType, MutBor}
use Rattle.js_tree.specs.contracts.lists.Items as items
use Rattle.js_tree.specs.contracts.lists.Boxed as boxed

module _ (T : RattleType) where
  -- the list has at this place what is written through the reference
  abbrev pub lends_item : MutBor (List T.Denot) → ℕ → MutBor T.Denot → Fml
  lends_item list at item = Lends (items.the_row T) T list item (slice_set list.now at)

  -- the box has what is written through the reference
  abbrev pub lends_value : MutBor T.Denot → MutBor T.Denot → Fml
  lends_value owner value = Lends (boxed.the_row T) T owner value (λ w. w)
