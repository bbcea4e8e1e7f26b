use Rattle.std.proofs.Common.{◌≡◌, ◌+◌, ◌-◌, arith}
use Rattle.cv_mem.proofs.Addresses.{each_from, each_at}
use Rattle.cv_mem.proofs.laws.each_address_tests_each.Goals as goal

pub returns : goal.returns
returns c = λ test a count. (
  λ h k l. each_at test a count (a + k) h (omega arith) (omega arith),
  λ h. each_from test a count (λ k l u. let e : a + (k - a) ≡ k = omega arith in rw e at (h (k - a) (omega arith))),
)
