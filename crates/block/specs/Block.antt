-- One block of document 01: 'Characters', 'Block formats', 'Kinds' and encoding one vector by itself, in the edition of Clause 49 that is in
-- use (document 02, 9/13): what depends on the table of control characters takes the edition first.
-- A vector is a list of ten bytes. A header is the number of its two bits, block bit 0 the lower: 2 data ("0 then 1"), 1 control ("1 then 0").
-- A payload is a number below 2 ^ 64, "lowest bit of each field first".
use Rattle.std.specs.Prelude.{List, [], ◌∷◌, ◌++◌, Bool, true, false, cond, not, ◌&&◌, ◌||◌, ℕ, zero, suc, ◌+◌, ◌-◌, ◌*◌, ◌/◌, ◌%◌, ◌^◌, eqb, ltb, length, get_or, take, drop}
use Rattle.refusals.specs.First.{Check, check, first, by_verdict}
use Rattle.control_bytes.specs.Control.{control_check}
use Rattle.block.specs.declared.Edition.{Edition}
use Rattle.block.specs.declared.Edition.TheVariants.{Old, New}
use Rattle.block.specs.declared.Kind.{Kind}
use Rattle.block.specs.declared.Kind.TheVariants.{D, C, S, T, E, LI}
use Rattle.block.specs.declared.Reason.{Reason}
use Rattle.block.specs.declared.Reason.TheVariants.{Header, BlockType, ControlCode, SetCode}
use Rattle.block.specs.declared.Class.{Class}

-- "A word is five bytes: a control byte .., then lanes 0 to 3", here with the lanes as one number, lane 0 lowest. "A vector is two words".
abbrev pub word : ℕ → ℕ → List ℕ
word control lanes = control ∷ lanes % 2 ^ 8 ∷ lanes / 2 ^ 8 % 2 ^ 8 ∷ lanes / 2 ^ 16 % 2 ^ 8 ∷ lanes / 2 ^ 24 % 2 ^ 8 ∷ []

abbrev pub two_words : ℕ → ℕ → ℕ → ℕ → List ℕ
two_words c0 d0 c1 d1 = word c0 d0 ++ word c1 d1

-- "A vector is two words, ten bytes": the first k vectors of a list of bytes, and all of them
unfoldable pub vectors_in : ℕ → List ℕ → List (List ℕ)
vectors_in zero bytes = []
vectors_in (suc k) bytes = take 10 bytes ∷ vectors_in k (drop 10 bytes)

abbrev pub vector_list : List ℕ → List (List ℕ)
vector_list bytes = vectors_in (length bytes / 10) bytes

-- ---- Editions (document 02, 9/13)

-- "Sender and receiver take an edition, old or new": 0 is the old one, 1 the new one.
unfoldable pub edition_of : ℕ → Edition
edition_of n = cond (eqb n 0) Old New

-- "13, edition unknown"
abbrev pub edition_check : ℕ → Check
edition_check n = check 13 (ltb 1 n)

-- ---- Characters (Table 49-1): each XGMII octet with its code

-- "These eight 7-bit codes are the valid control characters."
abbrev pub controls : List (ℕ × ℕ)
controls = (0x07, 0x00) ∷ (0xfe, 0x1e) ∷ (0x1c, 0x2d) ∷ (0x3c, 0x33) ∷ (0x7c, 0x4b) ∷ (0xbc, 0x55) ∷ (0xdc, 0x66) ∷ (0xf7, 0x78) ∷ []

-- 9/13: the newer edition "adds the low power idle character, XGMII 06 with code 06".
abbrev pub controls_in : Edition → List (ℕ × ℕ)
controls_in Old = controls
controls_in New = (0x06, 0x06) ∷ controls

-- "9c has ordered set code 0 and 5c code f"
abbrev pub sets : List (ℕ × ℕ)
sets = (0x9c, 0x0) ∷ (0x5c, 0xf) ∷ []

-- a table without one code
abbrev pub without : ℕ → List (ℕ × ℕ) → List (ℕ × ℕ)
without c [] = []
without c (p ∷ ps) = cond (eqb p.1 c) (without c ps) (p ∷ without c ps)

-- the code of an octet, and the octet of a code; `missing` where the table has none
abbrev pub code_in : ℕ → List (ℕ × ℕ) → ℕ → ℕ
code_in missing [] octet = missing
code_in missing (p ∷ ps) octet = cond (eqb p.0 octet) p.1 (code_in missing ps octet)

abbrev pub octet_in : ℕ → List (ℕ × ℕ) → ℕ → ℕ
octet_in missing [] code = missing
octet_in missing (p ∷ ps) code = cond (eqb p.1 code) p.0 (octet_in missing ps code)

-- what a character of a block is: a control character; one whose code is not 1e; data; an ordered set; Start; Terminate
pub data Slot : Type 0 where
  Control Calm Data Set Start Terminate : Slot

module _ (ed : Edition) where
  -- The code that is sent for an octet. 256 says "no such control character", 512 "no such ordered set": a number below 256 is valid.
  -- Start and Terminate have no code of their own, so the bits of their fields are unused, "sent as zero".
  abbrev pub code_of : Slot → ℕ → ℕ
  code_of Control o = code_in 256 (controls_in ed) o
  code_of Calm o = code_in 256 (without 0x1e (controls_in ed)) o
  code_of Data o = o
  code_of Set o = code_in 512 sets o
  code_of Start o = cond (eqb o 0xfb) 0 256
  code_of Terminate o = cond (eqb o 0xfd) 0 256

  -- The octet that is read from the bits of a field; those of Start and Terminate are "ignored on receipt".
  abbrev pub octet_of : Slot → ℕ → ℕ
  octet_of Control v = octet_in 256 (controls_in ed) v
  octet_of Calm v = octet_in 256 (without 0x1e (controls_in ed)) v
  octet_of Data v = v
  octet_of Set v = octet_in 512 sets v
  octet_of Start v = 0xfb
  octet_of Terminate v = 0xfd

-- the control bit of its lane
abbrev pub control_bit : Slot → ℕ
control_bit Control = 1
control_bit Calm = 1
control_bit Data = 0
control_bit Set = 1
control_bit Start = 1
control_bit Terminate = 1

-- ---- Block formats (Figure 49-7)

-- a field of the payload: what it holds, for which character, in how many bits. A format's unused bits are those of its S or T.
pub record Field : Type 0 where
  pub slot : Slot
  pub char : ℕ
  pub bits : ℕ

-- C: a control character, 7 bits
abbrev pub c : ℕ → Field
c p = record { slot = Control; char = p; bits = 7 }

-- C of type 1e: a control character other than 1e, 7 bits
abbrev pub i : ℕ → Field
i p = record { slot = Calm; char = p; bits = 7 }

-- D: a data octet, 8 bits
abbrev pub d : ℕ → Field
d p = record { slot = Data; char = p; bits = 8 }

-- O: an ordered set, 4 bits
abbrev pub o : ℕ → Field
o p = record { slot = Set; char = p; bits = 4 }

-- S: Start, with n unused bits
abbrev pub s : ℕ → ℕ → Field
s p n = record { slot = Start; char = p; bits = n }

-- T: Terminate, with n unused bits
abbrev pub t : ℕ → ℕ → Field
t p n = record { slot = Terminate; char = p; bits = n }

-- the same field for n characters from p
abbrev pub several : (ℕ → Field) → ℕ → ℕ → List Field
several f p zero = []
several f p (suc n) = f p ∷ several f (suc p) n

-- a block with this header, then the type in `lead` bits, then the fields
pub record Format : Type 0 where
  pub kind : Kind
  pub header : ℕ
  pub lead : ℕ
  pub type : ℕ
  pub fields : List Field

abbrev pub control : Kind → ℕ → List Field → Format
control k y fs = record { kind = k; header = 1; lead = 8; type = y; fields = fs }

-- "k data octets, -(7-k), then 7-k codes"
abbrev pub terminate : ℕ → ℕ → Format
terminate y k = control T y (several d 0 k ++ t k (7 - k) ∷ several c (k + 1) (7 - k))

-- "A data block carries D0 to D7."
abbrev pub data_block : Format
data_block = record { kind = D; header = 2; lead = 0; type = 0; fields = several d 0 8 }

-- the table of the control blocks
abbrev pub control_blocks : List Format
control_blocks =
    control C 0x1e (several i 0 8)
    ∷ control C 0x2d (several c 0 4 ++ o 4 ∷ several d 5 3)
    ∷ control S 0x33 (several c 0 4 ++ s 4 4 ∷ several d 5 3)
    ∷ control S 0x66 (several d 1 3 ++ o 0 ∷ s 4 4 ∷ several d 5 3)
    ∷ control C 0x55 (several d 1 3 ++ o 0 ∷ o 4 ∷ several d 5 3)
    ∷ control S 0x78 (s 0 0 ∷ several d 1 7)
    ∷ control C 0x4b (several d 1 3 ++ o 0 ∷ several c 4 4)
    ∷ terminate 0x87 0
    ∷ terminate 0x99 1
    ∷ terminate 0xaa 2
    ∷ terminate 0xb4 3
    ∷ terminate 0xcc 4
    ∷ terminate 0xd2 5
    ∷ terminate 0xe1 6
    ∷ terminate 0xff 7
    ∷ []

-- what has no format: kind E
abbrev pub no_format : Format
no_format = record { kind = E; header = 1; lead = 8; type = 0; fields = [] }

-- ---- a block that was received

-- the format of a type, and of a block
abbrev pub by_type : List Format → ℕ → Format
by_type [] y = no_format
by_type (f ∷ fs) y = cond (eqb f.type y) f (by_type fs y)

abbrev pub format_of : ℕ → ℕ → Format
format_of h x = cond (eqb h 2) data_block (cond (eqb h 1) (by_type control_blocks (x % 2 ^ 8)) no_format)

-- where the field of character p begins, after the fields before it
abbrev pub place_at : List Field → ℕ → ℕ
place_at [] p = 0
place_at (f ∷ fs) p = cond (eqb f.char p) 0 (f.bits + place_at fs p)

-- the control bit of character p
abbrev pub flag_at : List Field → ℕ → ℕ
flag_at [] p = 0
flag_at (f ∷ fs) p = cond (eqb f.char p) (control_bit f.slot) (flag_at fs p)

-- the control byte of the four characters from p
abbrev pub flags_at : List Field → ℕ → ℕ
flags_at fs p = flag_at fs p + 2 * flag_at fs (p + 1) + 4 * flag_at fs (p + 2) + 8 * flag_at fs (p + 3)

-- "Error vector: 0f fe fe fe fe 0f fe fe fe fe. Local Fault vector: 01 9c 00 00 01 01 9c 00 00 01."
abbrev pub error_vector : List ℕ
error_vector = 0x0f ∷ 0xfe ∷ 0xfe ∷ 0xfe ∷ 0xfe ∷ 0x0f ∷ 0xfe ∷ 0xfe ∷ 0xfe ∷ 0xfe ∷ []

abbrev pub local_fault_vector : List ℕ
local_fault_vector = 0x01 ∷ 0x9c ∷ 0x00 ∷ 0x00 ∷ 0x01 ∷ 0x01 ∷ 0x9c ∷ 0x00 ∷ 0x00 ∷ 0x01 ∷ []

-- low power idle: eight control characters 06
abbrev pub low_power_vector : List ℕ
low_power_vector = 0x0f ∷ 0x06 ∷ 0x06 ∷ 0x06 ∷ 0x06 ∷ 0x0f ∷ 0x06 ∷ 0x06 ∷ 0x06 ∷ 0x06 ∷ []

-- two lists of bytes are the same
abbrev pub same : List ℕ → List ℕ → Bool
same [] [] = true
same [] (b ∷ m) = false
same (a ∷ l) [] = false
same (a ∷ l) (b ∷ m) = eqb a b && same l m

-- The kind of a valid vector of one format. 9/13, "the extra kind", as docs/DECISIONS.md has it ('The newer edition'): "LI, .. type 1e with eight
-- codes 06". In the old edition no valid vector is one.
abbrev pub low_power : Format → List ℕ → Bool
low_power f v = eqb f.type 0x1e && same v low_power_vector

unfoldable pub kind_for : Format → List ℕ → Kind
kind_for f v = cond (low_power f v) LI f.kind

abbrev pub all_below : ℕ → List ℕ → Bool
all_below m [] = true
all_below m (a ∷ l) = ltb a m && all_below m l

module _ (ed : Edition) where
  -- character p of fields that begin at bit 0 of x: its octet, not below 256 where its bits are not valid
  abbrev pub octet_at : List Field → ℕ → ℕ → ℕ
  octet_at [] x p = 256
  octet_at (f ∷ fs) x p = cond (eqb f.char p) (octet_of ed f.slot (x % 2 ^ f.bits)) (octet_at fs (x / 2 ^ f.bits) p)

  -- the ten bytes: two words, each a control byte and four octets
  abbrev pub words_of : List Field → ℕ → List ℕ
  words_of fs x =
      flags_at fs 0 ∷ octet_at fs x 0 ∷ octet_at fs x 1 ∷ octet_at fs x 2 ∷ octet_at fs x 3
      ∷ flags_at fs 4 ∷ octet_at fs x 4 ∷ octet_at fs x 5 ∷ octet_at fs x 6 ∷ octet_at fs x 7 ∷ []

  abbrev pub vector_of : Format → ℕ → List ℕ
  vector_of f x = words_of f.fields (x / 2 ^ f.lead)

  -- a block is valid when each of its eight characters is
  abbrev pub valid : Format → ℕ → Bool
  valid f x = all_below 256 (vector_of f x)

  -- the kind and the vector of a block of one format
  abbrev pub kind_by : Format → ℕ → Kind
  kind_by f x = cond (valid f x) (kind_for f (vector_of f x)) E

  abbrev pub decoded_by : Format → ℕ → List ℕ
  decoded_by f x = cond (valid f x) (vector_of f x) error_vector

  -- 'Kinds': the kind of a block with this header and payload, and its vector, the error vector for kind E
  unfoldable pub kind_of : ℕ → ℕ → Kind
  kind_of h x = kind_by (format_of h x) x

  unfoldable pub decoded : ℕ → ℕ → List ℕ
  decoded h x = decoded_by (format_of h x) x

-- the kinds by tests
abbrev pub is_d : Kind → Bool
is_d D = true
is_d C = false
is_d S = false
is_d T = false
is_d E = false
is_d LI = false

abbrev pub is_c : Kind → Bool
is_c D = false
is_c C = true
is_c S = false
is_c T = false
is_c E = false
is_c LI = false

abbrev pub is_s : Kind → Bool
is_s D = false
is_s C = false
is_s S = true
is_s T = false
is_s E = false
is_s LI = false

abbrev pub is_t : Kind → Bool
is_t D = false
is_t C = false
is_t S = false
is_t T = true
is_t E = false
is_t LI = false

abbrev pub is_error : Kind → Bool
is_error D = false
is_error C = false
is_error S = false
is_error T = false
is_error E = true
is_error LI = false

-- a vector is the error vector
abbrev pub is_error_vector : List ℕ → Bool
is_error_vector v = same v error_vector

-- ---- why a received block is bad: document 02, 1/13

-- some element of a list passes a test
abbrev pub some : {A : Type 0} → (A → Bool) → List A → Bool
some test [] = false
some test (a ∷ l) = test a || some test l

-- the class of a block that is not bad, by its kind; what has no format has no type
abbrev pub good : Kind → Class
good D = Class.D
good C = Class.C
good S = Class.S
good T = Class.T
good E = Class.Bad BlockType
good LI = Class.LI

module _ (ed : Edition) where
  -- some character of the block says that it is not valid: 256 a control code, 512 an ordered set code
  abbrev pub says : ℕ → Format → ℕ → Bool
  says n f x = some (eqb n) (vector_of ed f x)

  -- by the codes of its characters; "code 1e in a block of type 1e is a control code fault", for the eight characters of that type are Calm
  abbrev pub class_by : Format → ℕ → Class
  class_by f x = cond (says 256 f x) (Class.Bad ControlCode) (cond (says 512 f x) (Class.Bad SetCode) (good (kind_for f (vector_of ed f x))))

  -- "header, type, control code or ordered set code, the first of these in that order"
  unfoldable pub class_of : ℕ → ℕ → Class
  class_of h x =
      cond (not (eqb h 1 || eqb h 2)) (Class.Bad Header)
      (cond (eqb h 1 && not (some (λ f. eqb f.type (x % 2 ^ 8)) control_blocks)) (Class.Bad BlockType)
      (class_by (format_of h x) x))

-- the kind of a class: E is bad, for whichever reason
abbrev pub kind_in : Class → Kind
kind_in Class.D = D
kind_in Class.C = C
kind_in Class.S = S
kind_in Class.T = T
kind_in (Class.Bad reason) = E
kind_in Class.LI = LI

-- the reasons by number, in their order, and the classes
abbrev pub reason_number : Reason → ℕ
reason_number Header = 0
reason_number BlockType = 1
reason_number ControlCode = 2
reason_number SetCode = 3

abbrev pub class_number : Class → ℕ
class_number Class.D = 0
class_number Class.C = 1
class_number Class.S = 2
class_number Class.T = 3
class_number (Class.Bad reason) = 4 + reason_number reason
class_number Class.LI = 8

-- ---- a vector to be sent

-- the control bit and the octet of character p
abbrev pub flag_of : List ℕ → ℕ → ℕ
flag_of v p = get_or v (5 * (p / 4)) 0 / 2 ^ (p % 4) % 2

abbrev pub lane_of : List ℕ → ℕ → ℕ
lane_of v p = get_or v (p + p / 4 + 1) 0

-- the block that carries a vector: its kind, header and payload; or none
pub data Carrier : Type 0 where
  block : Kind → ℕ → ℕ → Carrier
  none : Carrier

abbrev pub carrier_kind : Carrier → Kind
carrier_kind (block k h x) = k
carrier_kind none = E

module _ (ed : Edition) where
  -- the code of a slot for an octet with this control bit, and what a field takes of a vector; not below 256 where it takes none
  abbrev pub code_for : Slot → ℕ → ℕ → ℕ
  code_for k b octet = cond (eqb b (control_bit k)) (code_of ed k octet) 256

  abbrev pub sent_code : List ℕ → Field → ℕ
  sent_code v f = code_for f.slot (flag_of v f.char) (lane_of v f.char)

  -- the fields' codes, the first in the lowest bits
  abbrev pub packed : List ℕ → List Field → ℕ
  packed v [] = 0
  packed v (f ∷ fs) = sent_code v f + 2 ^ f.bits * packed v fs

  -- every field takes its character
  abbrev pub carries : List ℕ → List Field → Bool
  carries v [] = true
  carries v (f ∷ fs) = ltb (sent_code v f) 256 && carries v fs

  abbrev pub payload_for : List ℕ → Format → ℕ
  payload_for v f = f.type + 2 ^ f.lead * packed v f.fields

  -- the first format that carries it
  abbrev pub carrier_by : List Format → List ℕ → Carrier
  carrier_by [] v = none
  carrier_by (f ∷ fs) v = cond (carries v f.fields) (block (kind_for f v) f.header (payload_for v f)) (carrier_by fs v)

  unfoldable pub carrier : List ℕ → Carrier
  carrier v = carrier_by (data_block ∷ control_blocks) v

  -- "A vector to be sent has the kind of the block that would carry it, E if none."
  unfoldable pub vector_kind : List ℕ → Kind
  vector_kind v = carrier_kind (carrier v)

-- "In state E the sent block is type 1e with eight codes 1e": n codes, the first in the lowest bits, and the payload
abbrev pub codes : ℕ → ℕ → ℕ
codes zero code = 0
codes (suc n) code = code + 2 ^ 7 * codes n code

abbrev pub error_payload : ℕ
error_payload = 0x1e + 2 ^ 8 * codes 8 0x1e

-- ---- encoding one vector by itself

-- "a vector of kind E is answered as kind E, not refused": carried by none
pub data EncodeAnswer : Type 0 where
  carried : Carrier → EncodeAnswer
  refused : ℕ → ℕ → EncodeAnswer

-- "Encoding one vector by itself refuses a length other than 10 with 2, then 5"
unfoldable pub encode_answer : Edition → List ℕ → EncodeAnswer
encode_answer ed v = by_verdict (first (check 2 (not (eqb (length v) 10)) ∷ control_check v ∷ [])) (carried (carrier ed v)) refused
