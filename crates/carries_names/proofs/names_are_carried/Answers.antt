use Rattle.carries_names.proofs.Names.{read_carried, store_carried, delete_carried, no_deletion_carried, deletions_carried, deleted_carried}
use Rattle.carries_names.proofs.names_are_carried.Goals as goal

pub returns : goal.returns
returns c = record {
  read = read_carried;
  store = store_carried;
  delete = delete_carried;
  none = no_deletion_carried;
  also = deletions_carried;
  each = λ h low high line xs b x. record { starts = x.starts; grows = x.grows; carries = x.carries };
  deleted = deleted_carried;
}
