-- "Numbers are little-endian": a number of k bytes, the lowest first, and back. Assumes nothing.
use Rattle.std.specs.Prelude.{◌≡◌, refl, List, [], ◌∷◌, ◌++◌, ℕ, zero, suc, ◌+◌, ◌*◌, ◌/◌, ◌%◌, ◌^◌, ◌≤◌, ◌<◌, ℤ, length, get_or, take, drop}
use Rattle.std.proofs.Common.{ap, ◌∙◌, mod-eq_of_lt, zero-add, pow-suc, div-lt_iff_lt-mul, add-one, arith, lit<, drop-cons, get_or-append-add, Fits}
use Rattle.std.proofs.Common.{SFits, of_z, to_z, to_z-of_z}
use Rattle.std.proofs.Math.Nat.{mod-add-div, add-mul-mod_self_left, add-mul-div_left, div-eq_of_lt}
use Rattle.std.specs.Int.Signed.{mag}
use Rattle.std.specs.Int.{w16, w32}
use Rattle.std.proofs.Math.Facts.{of_z-to_z, Fits-of_z, sfits_to_z, sfits_widen}

-- the k lowest bytes of a number
unfoldable pub bytes_of : ℕ → ℕ → List ℕ
bytes_of zero n = []
bytes_of (suc k) n = n % 256 ∷ bytes_of k (n / 256)

-- the number whose k bytes stand at i
unfoldable pub number_at : ℕ → List ℕ → ℕ → ℕ
number_at zero s i = 0
number_at (suc k) s i = get_or s i 0 + 256 * number_at k s (i + 1)

-- "unsigned 16 bits"
abbrev pub unsigned_at : List ℕ → ℕ → ℕ
unsigned_at s i = number_at 2 s i

-- "signed 16 bits": two's complement
unfoldable pub signed : ℕ → ℤ
signed n = to_z w16 n

unfoldable pub bits : ℤ → ℕ
bits x = of_z w16 x

abbrev pub signed_at : List ℕ → ℕ → ℤ
signed_at s i = signed (unsigned_at s i)

-- each element is a byte
pub record Bytes (s : List ℕ) : Type 0 where
  pub small : (i : ℕ) → get_or s i 0 < 256

-- what is asked of a signed number that is stored
pub record PutsSigned (buffer : List ℕ) (i : ℕ) (x : ℤ) : Type 0 where
  pub room : i + 1 < length buffer
  pub fits : SFits w16 x

pub length-bytes : (k n : ℕ) → length (bytes_of k n) ≡ k
unfolding bytes_of
length-bytes zero n = refl
length-bytes (suc k) n = ap suc (length-bytes k (n / 256))

-- a number goes by the bytes that stand there
pub number_after : (k : ℕ) (pre l : List ℕ) (m : ℕ) → number_at k (pre ++ l) (length pre + m) ≡ number_at k l m
unfolding number_at
number_after zero pre l m = refl
number_after (suc k) pre l m =
    let e : length pre + m + 1 ≡ length pre + (m + 1) = omega arith in
    rw (e, get_or-append-add pre l m 0, number_after k pre l (m + 1))

-- what was written is read
pub number_bytes : (k n : ℕ) (post : List ℕ) → n < 256 ^ k → number_at k (bytes_of k n ++ post) 0 ≡ n
unfolding number_at bytes_of
number_bytes zero n post h = omega arith
number_bytes (suc k) n post h =
    let l : n / 256 < 256 ^ k = (div-lt_iff_lt-mul (lit< tt)).1 (rw pow-suc at h) in
    let rest = bytes_of k (n / 256) ++ post in
    let e : number_at k (n % 256 ∷ rest) 1 ≡ n / 256 = number_after k (n % 256 ∷ []) rest 0 ∙ number_bytes k (n / 256) post l in
    rw e (mod-add-div n 256)

-- what was read is written
pub bytes-number : {s : List ℕ} → Bytes s → (k i : ℕ) → i + k ≤ length s → bytes_of k (number_at k s i) ≡ take k (drop i s)
unfolding number_at bytes_of
bytes-number b zero i h = refl
bytes-number {s} b (suc k) i h =
    let l : i < length s = omega arith in
    let m = number_at k s (i + 1) in
    rw (
      add-mul-mod_self_left (get_or s i 0) 256 m,
      mod-eq_of_lt (b.small i),
      add-mul-div_left (get_or s i 0) m {y = 256} (lit< tt),
      div-eq_of_lt (b.small i),
      zero-add,
      drop-cons s i 0 l,
      bytes-number b k (i + 1) (omega arith),
      add-one,
    )

-- of bytes, it fits
pub number_fits : {s : List ℕ} → Bytes s → (i : ℕ) → Fits w16 (unsigned_at s i)
unfolding number_at
number_fits b i = record { fits = omega (arith, b.small i, b.small (i + 1)) }

pub signed-bits : {x : ℤ} → SFits w16 x → signed (bits x) ≡ x
unfolding signed bits
signed-bits h = to_z-of_z h

pub bits-signed : {n : ℕ} → Fits w16 n → bits (signed n) ≡ n
unfolding signed bits
bits-signed h = of_z-to_z h

pub bits_fit : {x : ℤ} → SFits w16 x → Fits w16 (bits x)
unfolding bits
bits_fit h = Fits-of_z h

pub signed-fits : {n : ℕ} → Fits w16 n → SFits w16 (signed n)
unfolding signed
signed-fits h = sfits_to_z h

-- a signed number in 32 bits, as the machine reads it back
pub read-32 : {x : ℤ} → mag x < 2 ^ 31 → to_z w32 (of_z w32 x) ≡ x
read-32 h = to_z-of_z {w = w32} (record { sfits = h })

pub read_back : {x : ℤ} → SFits w16 x → to_z w32 (of_z w32 x) ≡ x
read_back h = to_z-of_z {w = w32} (sfits_widen {w = w16} {w' = w32} tt h)

pub read_fits : {x : ℤ} → SFits w16 x → SFits w16 (to_z w32 (of_z w32 x))
read_fits h = rw (read_back h) h
