-- What is left of a body.
use Rattle.std.specs.Prelude.{List, false}
use Rattle.rle_reader.specs.declared.body.Body.{Body}
use Rattle.rle_reader.specs.declared.body.LocatedByte.{LocatedByte}
use Rattle.rle_reader.specs.Body.{stripped_from}
use Rattle.rle_reader.specs.Items.{Items, ItemSlice, items_of}
use Rattle.rle_reader.specs.Meaning.{runs_kept}

-- the significant bytes that are left
abbrev pub bytes_left : Body → List LocatedByte
bytes_left body = stripped_from body.source.now body.at false

-- the items that are left
abbrev pub items_left : Body → Items
items_left body = items_of (bytes_left body)

-- the items that are left, as slices
abbrev pub runs_left : Body → List ItemSlice
runs_left body = runs_kept body.source.now (bytes_left body)
