-- The elements of a chart beside those of a picture.
use Rattle.std.specs.Prelude.{ℕ, ◌+◌, List, ◌++◌, codes, decimal}
use Rattle.picture_text.specs.Cells.{place_attributes}
use Rattle.chart_text.specs.declared.look.Look.{Look}
use Rattle.chart_text.specs.Looks.{look_text, look_letter}

-- a cell of this class, lower and wider than one of a picture
abbrev pub wide_cell : List ℕ → ℕ → ℕ → List ℕ → List ℕ → List ℕ
wide_cell class x y title shown =
    codes "<g class=\"" ++ class ++ codes "\"><title>" ++ title ++ codes "</title><rect" ++ place_attributes x y
    ++ codes " width=\"22\" height=\"15\"/><text" ++ place_attributes (x + 11) (y + 12) ++ codes ">" ++ shown
    ++ codes "</text></g>\n"

-- the cell that stands for a look
abbrev pub look_cell : Look → ℕ → ℕ → List ℕ
look_cell look x y = wide_cell (look_text look) x y (look_text look) (look_letter look)

-- the mark of a fault
abbrev pub fault_shape : List ℕ
fault_shape = codes "h2v4h-2z"

-- an upright line of this class and height
abbrev pub pole : List ℕ → ℕ → ℕ → ℕ → List ℕ
pole class x y height =
    codes "<path class=\"" ++ class ++ codes "\" d=\"M" ++ decimal x ++ codes " "
    ++ decimal y ++ codes "v" ++ decimal height
    ++ codes "\"/>\n"
