use Rattle.std.proofs.Common.{◌≡◌, ℕ, [], ◌-◌, ◌^◌, false, true}
use Rattle.std.specs.Fmt.{padded_integral, format_spec, digits, char_count}
use Rattle.std.proofs.Math.Nat.{sub-zero}
use Rattle.std.proofs.lemmas.List.{append-nil}
use Rattle.cv_base.specs.Text.{address_text}
use Rattle.cv_base.proofs.address.AddressDisplay.fmt.Goals as goal

-- eight digits with zeros in front are what a hole of width 8 writes
eight : (n : ℕ) → padded_integral (format_spec 32 0 4 8 (2 ^ 64 - 1)) false [] (digits 16 true n) ≡ address_text n
unfolding padded_integral char_count
eight n = simp (sub-zero, append-nil)

pub returns-clause-writes : goal.returns-clause-writes
returns-clause-writes g c plain ok = rw (c.laid_out.ensures, c.in_radix.ensures, eight c.args.self.now.0) at c.write.ensures.writes plain ok
