pub mod ReceiveLaws
