-- `next` takes the lowest name off the word, so fewer are left.
use Rattle.abt_packed.proofs.Naming.{naming-fewer}
use Rattle.abt_packed.proofs.EntriesIterator.next.Goals as goal

pub returns-clause-goes : goal.returns-clause-goes
returns-clause-goes c =
    let f = c.first_digit-k.ensures in
    record {
      on = λ _. (tt, tt, naming-fewer c.args.self.now.0 c.with_digit-self.result c.first_digit-k.result f.2 f.3 f.1 c.with_digit-self.ensures);
      keeps = tt;
      rests = λ _. tt;
    }
