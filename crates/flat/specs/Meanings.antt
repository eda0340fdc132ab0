-- What a flat shelf means, drawn from what it holds.
use Rattle.std.specs.Prelude.{ℕ, List, vec_items}
use Rattle.device.specs.Files.{Files}
use Rattle.flat.specs.Shelves.{flat}
use Rattle.flat.specs.declared.shelf.Flat.{Flat}

abbrev pub image_of : Flat → List ℕ
image_of f = vec_items f.image.bytes

abbrev pub flat_of : Flat → Files
flat_of f = flat (image_of f) f.image.limit f.opened
