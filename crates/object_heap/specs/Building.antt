-- How the objects of the start are put together, property by property.
use Rattle.std.specs.Prelude.{ℕ, List, [], ◌∷◌, map, Option, Some, None, option_map}
use Rattle.std.specs.Borrow.{Bor}
use Rattle.object_heap.specs.declared.object.Class.{Class}
use Rattle.object_heap.specs.declared.built_in.BuiltIn.{BuiltIn}
use Rattle.object_heap.specs.Names.{Name, length_name, prototype_name}
use Rattle.object_heap.specs.Objects.{Property, Object}
use Rattle.object_heap.specs.Arrays.{whole}
use Rattle.object_heap.specs.Changes.{put_property, holding, all_three}
use Rattle.object_heap.specs.BuiltIns.{number_of}
use Rattle.object_heap.specs.Start.{has, the}

-- the properties of a table of names and objects
abbrev pub members : List (Bor Name × BuiltIn) → List Property
members table = map (λ m. has m.0.now m.1) table

-- each is put in turn
abbrev pub put_all : List Property → List Property → List Property
put_all properties [] = properties
put_all properties (new ∷ more) = put_all (put_property properties new) more

abbrev pub object_of : Class → Option BuiltIn → List Property → Object
object_of class prototype properties =
    record { class = class; prototype = option_map number_of prototype; properties = properties }

-- what a function begins with, and a constructor
abbrev pub first_of_function : ℕ → Option BuiltIn → List Property
first_of_function length None = holding length_name (whole length) all_three ∷ []
first_of_function length (Some prototype) =
    holding length_name (whole length) all_three
    ∷ holding prototype_name (the prototype) all_three ∷ []
