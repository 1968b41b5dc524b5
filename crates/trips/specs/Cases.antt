-- Case P, and small tapes and tables, computed. Assumes nothing.
use Rattle.std.specs.Prelude.{◌≡◌, refl, List, [], ◌∷◌, ℕ, ℤ, pos, negsuc, length, take, replicate, Ok, Err}
use Rattle.whole.specs.First.{first_below}
use Rattle.points.specs.Range.{is_out}
use Rattle.points.specs.Points.{coord_of}
use Rattle.tables.specs.Size.{is_size}
use Rattle.answers.specs.Answer.{fault, refused, of_length}
use Rattle.answers.specs.Order.{first_of}
use Rattle.tape.specs.Little.{bytes_of, number_at, bits, signed}
use Rattle.whole.specs.Joined.{joined}
use Rattle.whole.specs.Over.{over}
use Rattle.tape.specs.Records.{packed}
use Rattle.tape.specs.Tape.{tape}
use Rattle.tape.specs.Reading.{look_at, run, read_tape, points_at, place, corners_at, begins_at}
use Rattle.reading.specs.Answer.{counted, refused_at}
use Rattle.reader.specs.Answer.{reading}
use Rattle.writer.specs.Answer.{written, buffer_after}

-- solid T
abbrev pub points : List ℤ
points = pos 0 ∷ pos 0 ∷ pos 0 ∷ pos 1 ∷ pos 0 ∷ pos 0 ∷ pos 0 ∷ pos 1 ∷ pos 0 ∷ pos 0 ∷ pos 0 ∷ pos 1 ∷ []

abbrev pub corners : List ℕ
corners = 0 ∷ 2 ∷ 1 ∷ 0 ∷ 1 ∷ 3 ∷ 0 ∷ 3 ∷ 2 ∷ 1 ∷ 2 ∷ 3 ∷ []

abbrev pub begins : List ℕ
begins = 0 ∷ 3 ∷ 6 ∷ 9 ∷ 12 ∷ []

abbrev pub bytes_t : List ℕ
bytes_t =
    1 ∷ 0 ∷ 0 ∷ 0 ∷ 0 ∷ 0 ∷ 0 ∷ 1 ∷ 1 ∷ 0 ∷ 0 ∷ 0 ∷ 0 ∷ 0 ∷ 1 ∷ 0 ∷ 0 ∷ 1 ∷ 0 ∷ 0 ∷ 0 ∷ 1 ∷ 0 ∷ 0 ∷ 0 ∷ 0 ∷ 1 ∷ 0
    ∷ 3 ∷ 0 ∷ 0 ∷ 2 ∷ 0 ∷ 1 ∷ 0 ∷ 3 ∷ 0 ∷ 0 ∷ 1 ∷ 0 ∷ 3 ∷ 0 ∷ 3 ∷ 0 ∷ 0 ∷ 3 ∷ 0 ∷ 2 ∷ 0 ∷ 3 ∷ 1 ∷ 0 ∷ 2 ∷ 0 ∷ 3 ∷ 0
    ∷ 0 ∷ 4 ∷ 0 ∷ 4 ∷ 0 ∷ []

-- "P. Tape of T: 61 bytes, ending 00 04 00 04 00; with the last byte missing, CUT 56"
pub record CaseP : Type 0 where
  pub bytes : tape points corners begins ≡ bytes_t
  pub sixty_one : length bytes_t ≡ 61
  pub read : read_tape bytes_t ≡ Ok (counted 4 4 12)
  pub read_points : points_at bytes_t 0 4 ≡ points
  pub read_corners : corners_at bytes_t 28 4 ≡ corners
  pub read_begins : begins_at bytes_t 28 5 ≡ begins
  pub cut : read_tape (take 60 bytes_t) ≡ Err (refused_at 20 56)

pub case_P : CaseP
unfolding joined packed bytes_of bits coord_of read_tape run look_at number_at signed place
case_P = record { bytes = refl; sixty_one = refl; read = refl; read_points = refl; read_corners = refl; read_begins = refl; cut = refl }

-- ROOM before anything else; input used up; the end alone
pub record Reads : Type 0 where
  pub room : reading [] [] [] [] ≡ Err (refused_at 16 0)
  pub empty : read_tape [] ≡ Err (refused_at 20 0)
  pub no_records : read_tape (0 ∷ 0 ∷ 0 ∷ 0 ∷ 0 ∷ []) ≡ Ok (counted 0 0 0)
  -- KIND 2 and 13; ORDER; CUT of a body; COUNT by F, and by V; TAIL at the byte that follows
  pub kind_2 : read_tape (2 ∷ []) ≡ Err (refused_at 17 0)
  pub kind_13 : read_tape (1 ∷ 0 ∷ 0 ∷ 0 ∷ 0 ∷ 0 ∷ 0 ∷ 13 ∷ []) ≡ Err (refused_at 17 7)
  pub order : read_tape (3 ∷ 0 ∷ 0 ∷ 0 ∷ 0 ∷ 0 ∷ 0 ∷ 1 ∷ []) ≡ Err (refused_at 18 7)
  pub no_end : read_tape (3 ∷ 0 ∷ 0 ∷ 0 ∷ 0 ∷ 0 ∷ 0 ∷ []) ≡ Err (refused_at 20 7)
  pub cut_body : read_tape (3 ∷ 0 ∷ 0 ∷ 0 ∷ 0 ∷ 0 ∷ []) ≡ Err (refused_at 20 0)
  pub count_facets : read_tape (0 ∷ 0 ∷ 0 ∷ 1 ∷ 0 ∷ []) ≡ Err (refused_at 21 0)
  pub count_points : read_tape (0 ∷ 0 ∷ 1 ∷ 0 ∷ 0 ∷ []) ≡ Err (refused_at 21 0)
  pub tail : read_tape (0 ∷ 0 ∷ 0 ∷ 0 ∷ 0 ∷ 9 ∷ []) ≡ Err (refused_at 22 5)
  -- at one record: the kind byte of a 1,025th point at the very end is LIMIT, of one that follows a facet ORDER; a facet too many is LIMIT
  pub limit : look_at (1 ∷ []) 0 1024 0 0 ≡ Err (refused_at 19 0)
  pub order_first : look_at (1 ∷ []) 0 1024 1 0 ≡ Err (refused_at 18 0)
  pub last_point : look_at (1 ∷ []) 0 1023 0 0 ≡ Err (refused_at 20 0)
  pub limit_facets : look_at (3 ∷ []) 0 4 2048 0 ≡ Err (refused_at 19 0)
  pub limit_corners : look_at (3 ∷ []) 0 4 4 6142 ≡ Err (refused_at 19 0)
  pub last_corners : look_at (3 ∷ []) 0 4 4 6141 ≡ Err (refused_at 20 0)

pub reads : Reads
unfolding read_tape run look_at number_at
reads = record {
  room = refl;
  empty = refl;
  no_records = refl;
  kind_2 = refl;
  kind_13 = refl;
  order = refl;
  no_end = refl;
  cut_body = refl;
  count_facets = refl;
  count_points = refl;
  tail = refl;
  limit = refl;
  order_first = refl;
  last_point = refl;
  limit_facets = refl;
  limit_corners = refl;
  last_corners = refl;
}

-- two's complement, the lower byte first
pub record Numbers : Type 0 where
  pub minus_one : bits (negsuc 0) ≡ 65535
  pub least : signed 32768 ≡ negsuc 32767
  pub most : signed 32767 ≡ pos 32767
  pub lower_first : bytes_of 2 258 ≡ 2 ∷ 1 ∷ []

pub numbers : Numbers
unfolding bits signed bytes_of
numbers = record { minus_one = refl; least = refl; most = refl; lower_first = refl }

-- the writer: T with just enough space, and with a byte less; cases B, C and D refused as the judge does
pub record Writes : Type 0 where
  pub space : written points corners begins (replicate 61 7) ≡ of_length 61
  pub bytes : buffer_after points corners begins (replicate 61 7) ≡ bytes_t
  pub no_space : written points corners begins (replicate 60 7) ≡ refused 23
  pub size : written points (take 9 corners) (take 4 begins) [] ≡ fault 1 0 0
  pub range : written (pos 0 ∷ pos 0 ∷ pos 0 ∷ pos 8192 ∷ pos 0 ∷ pos 0 ∷ pos 0 ∷ pos 1 ∷ pos 0 ∷ pos 0 ∷ pos 0 ∷ pos 1 ∷ []) corners begins [] ≡ fault 2 1 0
  pub index : written points (0 ∷ 2 ∷ 1 ∷ 0 ∷ 1 ∷ 3 ∷ 0 ∷ 3 ∷ 2 ∷ 1 ∷ 2 ∷ 4 ∷ []) begins [] ≡ fault 3 3 2

pub writes : Writes
unfolding first_of is_size is_out coord_of first_below over joined packed bytes_of bits
writes = record { space = refl; bytes = refl; no_space = refl; size = refl; range = refl; index = refl }
