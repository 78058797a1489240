pub mod RecordOrder
