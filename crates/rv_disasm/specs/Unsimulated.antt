-- Instructions that are not simulated, as rows of the manuals' listings (RISC-V Unprivileged ISA 20191213, chapters 16 and 24; RISC-V bit
-- manipulation 1.0.0; Privileged ISA 20190608).
use Rattle.std.specs.Prelude.{ℕ, List, [], ◌∷◌, ◌++◌, Option, Bool, codes, bit_and, find, ◌==◌}
use Rattle.rv_disasm.specs.declared.unsimulated.Row.{Row as CodesRow}

-- a row of a listing: an encoding matches it if its bits in `mask` equal `pattern`
pub record Row : Type 0 where
  -- the bits that the row fixes
  pub mask : ℕ
  -- the values of the bits that the row fixes
  pub pattern : ℕ
  pub mnemonic : List ℕ
  pub extension : List ℕ

-- the row of a listing with this mask, pattern, mnemonic and extension
abbrev pub row : ℕ → ℕ → List ℕ → List ℕ → Row
row mask pattern mnemonic extension =
    record { mask = mask; pattern = pattern; mnemonic = mnemonic; extension = extension }

-- a `Row` of the code as contracts see it, with texts in place of references
abbrev pub row_view : CodesRow → Row
row_view code_row = row code_row.0 code_row.1 code_row.2.now code_row.3.now

-- whether an encoding matches a row: it has the row's values at the bits that the row fixes
abbrev pub is_row_of : ℕ → Row → Bool
is_row_of code r = bit_and code r.mask == r.pattern

-- ---- the 32-bit rows

-- the CSR instructions (chapter 9), which fix opcode and funct3
abbrev pub zicsr : List Row
zicsr =
    row 0x0000_707f 0x0000_1073 (codes "csrrw") (codes "Zicsr") ∷
    row 0x0000_707f 0x0000_2073 (codes "csrrs") (codes "Zicsr") ∷
    row 0x0000_707f 0x0000_3073 (codes "csrrc") (codes "Zicsr") ∷
    row 0x0000_707f 0x0000_5073 (codes "csrrwi") (codes "Zicsr") ∷
    row 0x0000_707f 0x0000_6073 (codes "csrrsi") (codes "Zicsr") ∷
    row 0x0000_707f 0x0000_7073 (codes "csrrci") (codes "Zicsr") ∷
    []

-- the atomic memory operations (chapter 8), which fix opcode, funct3 and funct5, but not the bits aq and rl
abbrev pub atomics : List Row
atomics =
    row 0xf9f0_707f 0x1000_202f (codes "lr.w") (codes "A") ∷
    row 0xf800_707f 0x1800_202f (codes "sc.w") (codes "A") ∷
    row 0xf800_707f 0x0800_202f (codes "amoswap.w") (codes "A") ∷
    row 0xf800_707f 0x0000_202f (codes "amoadd.w") (codes "A") ∷
    row 0xf800_707f 0x2000_202f (codes "amoxor.w") (codes "A") ∷
    row 0xf800_707f 0x6000_202f (codes "amoand.w") (codes "A") ∷
    row 0xf800_707f 0x4000_202f (codes "amoor.w") (codes "A") ∷
    row 0xf800_707f 0x8000_202f (codes "amomin.w") (codes "A") ∷
    row 0xf800_707f 0xa000_202f (codes "amomax.w") (codes "A") ∷
    row 0xf800_707f 0xc000_202f (codes "amominu.w") (codes "A") ∷
    row 0xf800_707f 0xe000_202f (codes "amomaxu.w") (codes "A") ∷
    []

-- the single-precision floating-point instructions (chapter 11), which fix every field except registers, immediates and the rounding mode
abbrev pub single_precision : List Row
single_precision =
    row 0x0000_707f 0x0000_2007 (codes "flw") (codes "F") ∷
    row 0x0000_707f 0x0000_2027 (codes "fsw") (codes "F") ∷
    row 0x0600_007f 0x0000_0043 (codes "fmadd.s") (codes "F") ∷
    row 0x0600_007f 0x0000_0047 (codes "fmsub.s") (codes "F") ∷
    row 0x0600_007f 0x0000_004b (codes "fnmsub.s") (codes "F") ∷
    row 0x0600_007f 0x0000_004f (codes "fnmadd.s") (codes "F") ∷
    row 0xfe00_007f 0x0000_0053 (codes "fadd.s") (codes "F") ∷
    row 0xfe00_007f 0x0800_0053 (codes "fsub.s") (codes "F") ∷
    row 0xfe00_007f 0x1000_0053 (codes "fmul.s") (codes "F") ∷
    row 0xfe00_007f 0x1800_0053 (codes "fdiv.s") (codes "F") ∷
    row 0xfff0_007f 0x5800_0053 (codes "fsqrt.s") (codes "F") ∷
    row 0xfe00_707f 0x2000_0053 (codes "fsgnj.s") (codes "F") ∷
    row 0xfe00_707f 0x2000_1053 (codes "fsgnjn.s") (codes "F") ∷
    row 0xfe00_707f 0x2000_2053 (codes "fsgnjx.s") (codes "F") ∷
    row 0xfe00_707f 0x2800_0053 (codes "fmin.s") (codes "F") ∷
    row 0xfe00_707f 0x2800_1053 (codes "fmax.s") (codes "F") ∷
    row 0xfff0_007f 0xc000_0053 (codes "fcvt.w.s") (codes "F") ∷
    row 0xfff0_007f 0xc010_0053 (codes "fcvt.wu.s") (codes "F") ∷
    row 0xfff0_707f 0xe000_0053 (codes "fmv.x.w") (codes "F") ∷
    row 0xfe00_707f 0xa000_2053 (codes "feq.s") (codes "F") ∷
    row 0xfe00_707f 0xa000_1053 (codes "flt.s") (codes "F") ∷
    row 0xfe00_707f 0xa000_0053 (codes "fle.s") (codes "F") ∷
    row 0xfff0_707f 0xe000_1053 (codes "fclass.s") (codes "F") ∷
    row 0xfff0_007f 0xd000_0053 (codes "fcvt.s.w") (codes "F") ∷
    row 0xfff0_007f 0xd010_0053 (codes "fcvt.s.wu") (codes "F") ∷
    row 0xfff0_707f 0xf000_0053 (codes "fmv.w.x") (codes "F") ∷
    []

-- the double-precision floating-point instructions (chapter 12)
abbrev pub double_precision : List Row
double_precision =
    row 0x0000_707f 0x0000_3007 (codes "fld") (codes "D") ∷
    row 0x0000_707f 0x0000_3027 (codes "fsd") (codes "D") ∷
    row 0x0600_007f 0x0200_0043 (codes "fmadd.d") (codes "D") ∷
    row 0x0600_007f 0x0200_0047 (codes "fmsub.d") (codes "D") ∷
    row 0x0600_007f 0x0200_004b (codes "fnmsub.d") (codes "D") ∷
    row 0x0600_007f 0x0200_004f (codes "fnmadd.d") (codes "D") ∷
    row 0xfe00_007f 0x0200_0053 (codes "fadd.d") (codes "D") ∷
    row 0xfe00_007f 0x0a00_0053 (codes "fsub.d") (codes "D") ∷
    row 0xfe00_007f 0x1200_0053 (codes "fmul.d") (codes "D") ∷
    row 0xfe00_007f 0x1a00_0053 (codes "fdiv.d") (codes "D") ∷
    row 0xfff0_007f 0x5a00_0053 (codes "fsqrt.d") (codes "D") ∷
    row 0xfe00_707f 0x2200_0053 (codes "fsgnj.d") (codes "D") ∷
    row 0xfe00_707f 0x2200_1053 (codes "fsgnjn.d") (codes "D") ∷
    row 0xfe00_707f 0x2200_2053 (codes "fsgnjx.d") (codes "D") ∷
    row 0xfe00_707f 0x2a00_0053 (codes "fmin.d") (codes "D") ∷
    row 0xfe00_707f 0x2a00_1053 (codes "fmax.d") (codes "D") ∷
    row 0xfff0_007f 0x4010_0053 (codes "fcvt.s.d") (codes "D") ∷
    row 0xfff0_007f 0x4200_0053 (codes "fcvt.d.s") (codes "D") ∷
    row 0xfe00_707f 0xa200_2053 (codes "feq.d") (codes "D") ∷
    row 0xfe00_707f 0xa200_1053 (codes "flt.d") (codes "D") ∷
    row 0xfe00_707f 0xa200_0053 (codes "fle.d") (codes "D") ∷
    row 0xfff0_707f 0xe200_1053 (codes "fclass.d") (codes "D") ∷
    row 0xfff0_007f 0xc200_0053 (codes "fcvt.w.d") (codes "D") ∷
    row 0xfff0_007f 0xc210_0053 (codes "fcvt.wu.d") (codes "D") ∷
    row 0xfff0_007f 0xd200_0053 (codes "fcvt.d.w") (codes "D") ∷
    row 0xfff0_007f 0xd210_0053 (codes "fcvt.d.wu") (codes "D") ∷
    []

-- the address generation instructions (bit manipulation 1.0.0, Zba)
abbrev pub address_generation : List Row
address_generation =
    row 0xfe00_707f 0x2000_2033 (codes "sh1add") (codes "Zba") ∷
    row 0xfe00_707f 0x2000_4033 (codes "sh2add") (codes "Zba") ∷
    row 0xfe00_707f 0x2000_6033 (codes "sh3add") (codes "Zba") ∷
    []

-- the basic bit manipulation instructions (bit manipulation 1.0.0, Zbb)
abbrev pub basic_bit_manipulation : List Row
basic_bit_manipulation =
    row 0xfe00_707f 0x4000_7033 (codes "andn") (codes "Zbb") ∷
    row 0xfe00_707f 0x4000_6033 (codes "orn") (codes "Zbb") ∷
    row 0xfe00_707f 0x4000_4033 (codes "xnor") (codes "Zbb") ∷
    row 0xfff0_707f 0x6000_1013 (codes "clz") (codes "Zbb") ∷
    row 0xfff0_707f 0x6010_1013 (codes "ctz") (codes "Zbb") ∷
    row 0xfff0_707f 0x6020_1013 (codes "cpop") (codes "Zbb") ∷
    row 0xfe00_707f 0x0a00_6033 (codes "max") (codes "Zbb") ∷
    row 0xfe00_707f 0x0a00_7033 (codes "maxu") (codes "Zbb") ∷
    row 0xfe00_707f 0x0a00_4033 (codes "min") (codes "Zbb") ∷
    row 0xfe00_707f 0x0a00_5033 (codes "minu") (codes "Zbb") ∷
    row 0xfff0_707f 0x6040_1013 (codes "sext.b") (codes "Zbb") ∷
    row 0xfff0_707f 0x6050_1013 (codes "sext.h") (codes "Zbb") ∷
    row 0xfff0_707f 0x0800_4033 (codes "zext.h") (codes "Zbb") ∷
    row 0xfe00_707f 0x6000_1033 (codes "rol") (codes "Zbb") ∷
    row 0xfe00_707f 0x6000_5033 (codes "ror") (codes "Zbb") ∷
    row 0xfe00_707f 0x6000_5013 (codes "rori") (codes "Zbb") ∷
    row 0xfff0_707f 0x2870_5013 (codes "orc.b") (codes "Zbb") ∷
    row 0xfff0_707f 0x6980_5013 (codes "rev8") (codes "Zbb") ∷
    []

-- the carry-less multiplications (bit manipulation 1.0.0, Zbc)
abbrev pub carry_less_products : List Row
carry_less_products =
    row 0xfe00_707f 0x0a00_1033 (codes "clmul") (codes "Zbc") ∷
    row 0xfe00_707f 0x0a00_3033 (codes "clmulh") (codes "Zbc") ∷
    row 0xfe00_707f 0x0a00_2033 (codes "clmulr") (codes "Zbc") ∷
    []

-- the single-bit instructions (bit manipulation 1.0.0, Zbs)
abbrev pub single_bit_operations : List Row
single_bit_operations =
    row 0xfe00_707f 0x4800_1033 (codes "bclr") (codes "Zbs") ∷
    row 0xfe00_707f 0x4800_1013 (codes "bclri") (codes "Zbs") ∷
    row 0xfe00_707f 0x4800_5033 (codes "bext") (codes "Zbs") ∷
    row 0xfe00_707f 0x4800_5013 (codes "bexti") (codes "Zbs") ∷
    row 0xfe00_707f 0x6800_1033 (codes "binv") (codes "Zbs") ∷
    row 0xfe00_707f 0x6800_1013 (codes "binvi") (codes "Zbs") ∷
    row 0xfe00_707f 0x2800_1033 (codes "bset") (codes "Zbs") ∷
    row 0xfe00_707f 0x2800_1013 (codes "bseti") (codes "Zbs") ∷
    []

-- the conditional zeroing instructions (Zicond 1.0)
abbrev pub conditional_zeroing : List Row
conditional_zeroing =
    row 0xfe00_707f 0x0e00_5033 (codes "czero.eqz") (codes "Zicond") ∷
    row 0xfe00_707f 0x0e00_7033 (codes "czero.nez") (codes "Zicond") ∷
    []

-- the instructions that wait on a reservation (Zawrs 1.0)
abbrev pub waits : List Row
waits =
    row 0xffff_ffff 0x00d0_0073 (codes "wrs.nto") (codes "Zawrs") ∷
    row 0xffff_ffff 0x01d0_0073 (codes "wrs.sto") (codes "Zawrs") ∷
    []

-- the cache block management instructions (CMO 1.0, Zicbom)
abbrev pub cache_block_management : List Row
cache_block_management =
    row 0xfff0_7fff 0x0000_200f (codes "cbo.inval") (codes "Zicbom") ∷
    row 0xfff0_7fff 0x0010_200f (codes "cbo.clean") (codes "Zicbom") ∷
    row 0xfff0_7fff 0x0020_200f (codes "cbo.flush") (codes "Zicbom") ∷
    []

-- the instruction that zeroes a cache block (CMO 1.0, Zicboz)
abbrev pub cache_block_zeroing : List Row
cache_block_zeroing =
    row 0xfff0_7fff 0x0040_200f (codes "cbo.zero") (codes "Zicboz") ∷
    []

-- the privileged instructions (Privileged ISA 20190608)
abbrev pub privileged : List Row
privileged =
    row 0xffff_ffff 0x1020_0073 (codes "sret") (codes "privileged") ∷
    row 0xffff_ffff 0x3020_0073 (codes "mret") (codes "privileged") ∷
    row 0xffff_ffff 0x1050_0073 (codes "wfi") (codes "privileged") ∷
    row 0xfe00_7fff 0x1200_0073 (codes "sfence.vma") (codes "privileged") ∷
    []

-- the rows of all 32-bit instructions that are not simulated
unfoldable pub rows32 : List Row
rows32 =
    zicsr ++
    (atomics ++
    (single_precision ++
    (double_precision ++
    (address_generation ++
    (basic_bit_manipulation ++
    (carry_less_products ++
    (single_bit_operations ++
    (conditional_zeroing ++
    (waits ++
    (cache_block_management ++
    (cache_block_zeroing ++
    privileged)))))))))))

-- the row of a word in the listings of instructions that are not simulated: the first row that it matches, or `None` if it matches none
unfoldable pub unsimulated32 : ℕ → Option Row
unsimulated32 word = find (is_row_of word) rows32

-- ---- the 16-bit rows

-- the rows of all 16-bit instructions that are not simulated: loads and stores of floating-point registers (chapter 16), which fix quadrant
-- and funct3
unfoldable pub rows16 : List Row
rows16 =
    row 0xe003 0x2000 (codes "c.fld") (codes "D") ∷
    row 0xe003 0x6000 (codes "c.flw") (codes "F") ∷
    row 0xe003 0xa000 (codes "c.fsd") (codes "D") ∷
    row 0xe003 0xe000 (codes "c.fsw") (codes "F") ∷
    row 0xe003 0x2002 (codes "c.fldsp") (codes "D") ∷
    row 0xe003 0x6002 (codes "c.flwsp") (codes "F") ∷
    row 0xe003 0xa002 (codes "c.fsdsp") (codes "D") ∷
    row 0xe003 0xe002 (codes "c.fswsp") (codes "F") ∷
    []

-- the row of a halfword in the listings of instructions that are not simulated: the first row that it matches, or `None` if it matches none
unfoldable pub unsimulated16 : ℕ → Option Row
unsimulated16 half = find (is_row_of half) rows16
