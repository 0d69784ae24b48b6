-- The limits, widths and bytes that the page names, each stated once.
use Rattle.std.specs.Prelude.{ℕ, List, [], ◌∷◌}

-- ---- limits

-- a file of at most 65,536 bytes
abbrev pub file_limit : ℕ
file_limit = 65536

-- at most 4,096 vertices, 1,024 elements, 6,144 tetrahedra
abbrev pub vertex_limit : ℕ
vertex_limit = 4096

abbrev pub element_limit : ℕ
element_limit = 1024

abbrev pub tetrahedron_limit : ℕ
tetrahedron_limit = 6144

-- thousandths of a millimetre, from -500,000 to 500,000
abbrev pub coordinate_limit : ℕ
coordinate_limit = 500000

-- ---- digits

-- one to six digits before the point
abbrev pub whole_digits : ℕ
whole_digits = 6

-- one to three digits after it
abbrev pub decimal_digits : ℕ
decimal_digits = 3

-- a vertex number or count: one to four digits
abbrev pub number_digits : ℕ
number_digits = 4

-- ---- widths

-- a vertex is three signed numbers
abbrev pub vertex_width : ℕ
vertex_width = 3

-- an element is nine numbers: its kind, then eight vertex numbers
abbrev pub element_width : ℕ
element_width = 9

-- an element has room for eight vertex numbers
abbrev pub corner_width : ℕ
corner_width = 8

-- a tetrahedron of the output is four vertex numbers
abbrev pub tetrahedron_width : ℕ
tetrahedron_width = 4

-- a line starts with a two-byte mark
abbrev pub mark_width : ℕ
mark_width = 2

-- its fields stand behind that and a space
abbrev pub fields_at : ℕ
fields_at = 3

-- ---- bytes

-- each line ends in byte 10
abbrev pub line_end : ℕ
line_end = 10

-- each field is preceded by exactly one space
abbrev pub space : ℕ
space = 32

-- a comma, which no coordinate holds
abbrev pub comma : ℕ
comma = 44

-- the optional minus of a coordinate
abbrev pub minus : ℕ
minus = 45

-- the decimal sign of a coordinate
abbrev pub point : ℕ
point = 46

-- the digits are the bytes from this one, 0,
abbrev pub digit0 : ℕ
digit0 = 48

-- to this one, 9
abbrev pub digit9 : ℕ
digit9 = 57

-- ---- all of them

-- every number above, in this order
abbrev pub page_numbers : List ℕ
page_numbers =
    file_limit ∷ vertex_limit ∷ element_limit ∷ tetrahedron_limit ∷ coordinate_limit ∷ whole_digits ∷ decimal_digits ∷ number_digits
    ∷ vertex_width ∷ element_width ∷ corner_width ∷ tetrahedron_width ∷ mark_width ∷ fields_at
    ∷ line_end ∷ space ∷ comma ∷ minus ∷ point ∷ digit0 ∷ digit9 ∷ []
