-- What a store of one of two kinds shows: what the one shows that it is.
use Rattle.am_store.specs.declared.either.EitherShelf.{EitherShelf}
use Rattle.am_store.specs.declared.either.EitherShelf.TheVariants.{First, Second}
use Rattle.am_store.specs.declared.shelf.Shelf.{Shelf}

abbrev pub of_either : {S T X : Type 0} → (Shelf S → X) → (Shelf T → X) → EitherShelf S T → X
of_either first second (First shelf) = first shelf
of_either first second (Second shelf) = second shelf

abbrev pub foreign_of : {S T : Type 0} → (Shelf S → Type 0) → (Shelf T → Type 0) → EitherShelf S T → Type 0
foreign_of first second (First shelf) = first shelf
foreign_of first second (Second shelf) = second shelf
