-- Worked examples, computed on the definitions.
use Rattle.std.proofs.Common.{◌≡◌, [], ◌∷◌, codes, refl}
use Rattle.stack_core.specs.declared.endings.ReadKind.TheVariants.{Compressed, TwoColumns, TotalTooLarge, DecimalWeight}
use Rattle.stack_core.specs.declared.endings.SourceEnd.TheVariants as ends
use Rattle.folded_lines.specs.Reading.{read_folded}
use Rattle.folded_lines.proofs.Computing.{computing}

empty_sources : read_folded [] ≡ record { samples = []; ending = ends.Clean 0 }
unfolding computing
empty_sources = refl

refused_counts : read_folded (codes "b 2\na 1 2\n")
    ≡ record { samples = record { stack = codes "b" ∷ []; weight = 2 } ∷ []; ending = ends.Fault (record { kind = TwoColumns; at = 2 }) }
unfolding computing
refused_counts = refl

odd_lines : read_folded (codes " 5\na; 1\na;;b 1\n\na x\na 5 \n")
    ≡ record { samples = record { stack = []; weight = 5 } ∷ record { stack = codes "a" ∷ []; weight = 1 } ∷ record { stack = codes "a" ∷ [] ∷ codes "b" ∷ []; weight = 1 } ∷ []; ending = ends.Clean 3 }
unfolding computing
odd_lines = refl

returned_lines : read_folded (codes "a 1\r\nc\t007\nb 2\r")
    ≡ record { samples = record { stack = codes "a" ∷ []; weight = 1 } ∷ record { stack = codes "c" ∷ []; weight = 7 } ∷ []; ending = ends.Clean 1 }
unfolding computing
returned_lines = refl

refused_point : read_folded (codes "b 2\na 1.5\n")
    ≡ record { samples = record { stack = codes "b" ∷ []; weight = 2 } ∷ []; ending = ends.Fault (record { kind = DecimalWeight; at = 2 }) }
unfolding computing
refused_point = refl

greatest_total : read_folded (codes "a 72057594037927935\nb 0\n")
    ≡ record { samples = record { stack = codes "a" ∷ []; weight = 72057594037927935 } ∷ record { stack = codes "b" ∷ []; weight = 0 } ∷ []; ending = ends.Clean 0 }
unfolding computing
greatest_total = refl

total_too_large : read_folded (codes "a 72057594037927935\nb 1\n")
    ≡ record { samples = record { stack = codes "a" ∷ []; weight = 72057594037927935 } ∷ []; ending = ends.Fault (record { kind = TotalTooLarge; at = 2 }) }
unfolding computing
total_too_large = refl

compressed : read_folded (0x1f ∷ 0x8b ∷ 0x08 ∷ []) ≡ record { samples = []; ending = ends.Fault (record { kind = Compressed; at = 1 }) }
compressed = refl

cut_text : read_folded (codes "a;b 2\na 1\na") ≡ record {
  samples = record { stack = codes "a" ∷ codes "b" ∷ []; weight = 2 } ∷ record { stack = codes "a" ∷ []; weight = 1 } ∷ [];
  ending = ends.Clean 1;
}
unfolding computing
cut_text = refl

two_columns_read_back : read_folded (codes "a 1 2\n") ≡ record { samples = []; ending = ends.Fault (record { kind = TwoColumns; at = 1 }) }
unfolding computing
two_columns_read_back = refl

lossy_name : read_folded (0x61 ∷ 0xff ∷ 0x3b ∷ 0xe2 ∷ 0x82 ∷ 0x41 ∷ 0xc0 ∷ 0x20 ∷ 0x31 ∷ 0x0a ∷ [])
    ≡ record { samples = record { stack = (0x61 ∷ 0xef ∷ 0xbf ∷ 0xbd ∷ []) ∷ (0xef ∷ 0xbf ∷ 0xbd ∷ 0x41 ∷ 0xef ∷ 0xbf ∷ 0xbd ∷ []) ∷ []; weight = 1 } ∷ []; ending = ends.Clean 0 }
unfolding computing
lossy_name = refl

-- one return belongs to the line's end, and the other to the line, whose last column is then no number
two_returns : read_folded (codes "a 1\r\r\n") ≡ record { samples = []; ending = ends.Clean 1 }
unfolding computing
two_returns = refl

tab_before_two_numbers : read_folded (codes "a\t1 2\n") ≡ record { samples = []; ending = ends.Fault (record { kind = TwoColumns; at = 1 }) }
unfolding computing
tab_before_two_numbers = refl

compressed_alone : read_folded (0x1f ∷ 0x8b ∷ []) ≡ record { samples = []; ending = ends.Fault (record { kind = Compressed; at = 1 }) }
compressed_alone = refl
